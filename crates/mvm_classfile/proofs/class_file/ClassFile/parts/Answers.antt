use Rattle.std.proofs.Common.{subst}
use Rattle.mvm_classfile.specs.Reading.{IsClassFile}
use Rattle.mvm_classfile.proofs.Fitting.{numbers_fit}
use Rattle.mvm_classfile.proofs.Made.{countable}
use Rattle.mvm_classfile.proofs.Kept.{linked_kept, classes_kept, fields_kept, fields_apart, methods_kept, methods_apart}
use Rattle.mvm_classfile.proofs.class_file.ClassFile.parts.Goals as goal

pub returns-clause-short : goal.returns-clause-short
returns-clause-short c = countable c.args.self.now (subst IsClassFile c.self.view_is c.self.invariant)

pub returns-clause-linked : goal.returns-clause-linked
returns-clause-linked c = linked_kept c.args.self.now (subst IsClassFile c.self.view_is c.self.invariant)

pub returns-clause-classes : goal.returns-clause-classes
returns-clause-classes c = classes_kept c.args.self.now (subst IsClassFile c.self.view_is c.self.invariant)

pub returns-clause-fields : goal.returns-clause-fields
returns-clause-fields c = fields_kept c.args.self.now (subst IsClassFile c.self.view_is c.self.invariant)

pub returns-clause-fields_apart : goal.returns-clause-fields_apart
returns-clause-fields_apart c = fields_apart c.args.self.now (subst IsClassFile c.self.view_is c.self.invariant)

pub returns-clause-methods : goal.returns-clause-methods
returns-clause-methods c = methods_kept c.args.self.now (subst IsClassFile c.self.view_is c.self.invariant)

pub returns-clause-methods_apart : goal.returns-clause-methods_apart
returns-clause-methods_apart c = methods_apart c.args.self.now (subst IsClassFile c.self.view_is c.self.invariant)

pub returns-clause-numbers : goal.returns-clause-numbers
returns-clause-numbers c = numbers_fit c.args.self.now (subst IsClassFile c.self.view_is c.self.invariant)
