-- What the reader of class files answers of bytes with a fault.
use Rattle.std.proofs.Common.{◌≡◌, ℕ, List, Some, Ok, Err, refl}
use Rattle.std.specs.Prelude.{◌≢◌, Result, IfOk, IfErr}
use Rattle.mvm_base.specs.Answers.{AnswersUnless}
use Rattle.mvm_layout.specs.declared.fault.ClassFault.{ClassFault}
use Rattle.mvm_layout.specs.declared.fault.ClassFault.TheVariants.{Magic, Version, Truncated, Trailing, Pool, Shape, Unsupported, OutOfMemory}
use Rattle.mvm_layout.specs.declared.parts.Parts.{Parts}
use Rattle.mvm_classfile.specs.Reading.{Reads, fault_of, Says}
use Rattle.mvm.specs.Commands.{IsClassFile, IsFaulty}

told : (text : List ℕ) (fault : ClassFault) → Says text (Err fault) → fault ≢ OutOfMemory → fault_of text ≡ Some fault
told text Magic said other = said
told text (Version major) said other = said
told text (Truncated at) said other = said
told text (Trailing at) said other = said
told text (Pool index) said other = said
told text (Shape at) said other = said
told text (Unsupported at) said other = said
told text OutOfMemory said other = absurd (other refl)

faulty : (text : List ℕ) (fault : ClassFault) → Says text (Err fault) → ((parts : Parts) → Reads text parts → AnswersUnless OutOfMemory (Err fault) (Ok parts)) → fault ≢ OutOfMemory → IsFaulty text fault
faulty text fault said reads other = record {
  told = told text fault said other;
  unread = λ parts r. (let e = reads parts r other in absurd cc);
}

-- what was read is a class file without a fault
pub class_file : (text : List ℕ) (answer : Result Parts ClassFault) → Says text answer → ((fault : ClassFault) → fault_of text ≡ Some fault → AnswersUnless OutOfMemory answer (Err fault)) → IfOk answer (IsClassFile text)
class_file text (Ok parts) said faults = record { reads = said; faultless = λ fault has. (let e = faults fault has in absurd cc) }
class_file text (Err fault) said faults = tt

-- what was told, but for want of memory, is the first fault of what is no class file
pub no_class_file : (text : List ℕ) (answer : Result Parts ClassFault) → Says text answer → ((parts : Parts) → Reads text parts → AnswersUnless OutOfMemory answer (Ok parts)) → IfErr answer (λ fault. fault ≢ OutOfMemory → IsFaulty text fault)
no_class_file text (Ok parts) said reads = tt
no_class_file text (Err fault) said reads = λ other. faulty text fault said reads other
