use Rattle.std.proofs.Common.{rules}
use mir.Syntax.{w128}
use mir.Val.{SFits}
use Rattle.std.proofs.lemmas.Int.{to_z-of_z}
use Rattle.mvm_asm.proofs.growing.Growing.act.Goals as goal

pub returns-in-Entry-clause-does : goal.returns-in-Entry-clause-does
returns-in-Entry-clause-does c =
    let fits_index : SFits w128 c.in-Entry.index = search rules in
    rw (c.in-Entry.is, ← to_z-of_z w128 c.in-Entry.index fits_index) (c.entry.ensures.does c.args.line)

pub returns-in-Class-clause-does : goal.returns-in-Class-clause-does
returns-in-Class-clause-does c =
    let fits_flags : SFits w128 c.in-Class.flags = search rules in
    rw (c.in-Class.is, ← to_z-of_z w128 c.in-Class.flags fits_flags) (c.class.ensures.does c.args.line)

pub returns-in-Implements-clause-does : goal.returns-in-Implements-clause-does
returns-in-Implements-clause-does c = rw c.in-Implements.is (c.implements.ensures.does c.args.line)

pub returns-in-Field-clause-does : goal.returns-in-Field-clause-does
returns-in-Field-clause-does c =
    let fits_flags : SFits w128 c.in-Field.flags = search rules in
    rw (c.in-Field.is, ← to_z-of_z w128 c.in-Field.flags fits_flags) (c.field.ensures.does c.args.line)

pub returns-in-Method-clause-does : goal.returns-in-Method-clause-does
returns-in-Method-clause-does c =
    let fits_flags : SFits w128 c.in-Method.flags = search rules in
    rw (c.in-Method.is, ← to_z-of_z w128 c.in-Method.flags fits_flags) (c.method.ensures.does c.args.line)

pub returns-in-Code-clause-does : goal.returns-in-Code-clause-does
returns-in-Code-clause-does c =
    let fits_max_stack : SFits w128 c.in-Code.max_stack = search rules in
    let fits_max_locals : SFits w128 c.in-Code.max_locals = search rules in
    rw (c.in-Code.is, ← to_z-of_z w128 c.in-Code.max_stack fits_max_stack, ← to_z-of_z w128 c.in-Code.max_locals fits_max_locals) (c.code.ensures.does c.args.line)

pub returns-in-Label-clause-does : goal.returns-in-Label-clause-does
returns-in-Label-clause-does c = rw c.in-Label.is (c.label.ensures.does c.args.line)

pub returns-in-End-clause-does : goal.returns-in-End-clause-does
returns-in-End-clause-does c = rw c.in-End.is (c.end.ensures.does c.args.line)
