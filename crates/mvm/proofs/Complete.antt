-- Where nothing stands in the way of a command, no answer is a refusal.
use Rattle.std.proofs.Common.{◌≡◌, ℕ, ◌<◌, List, length, subst, sym, ◌∙◌, ap, inl, inr}
use Rattle.std.specs.Prelude.{IfSome, Ok, Err, true, false}
use Rattle.std.proofs.Math.Nat.{not-le_of_lt}
use Rattle.mvm_classfile.proofs.Answered.{one}
use Rattle.mvm_layout.specs.declared.parts.Parts.{Parts}
use Rattle.mvm_listing.specs.declared.fault.AsmFault.{AsmFault}
use Rattle.mvm_listing.specs.Assembly.{class_of}
use Rattle.mvm_outside.specs.declared.traits.TheConstants.{MOST_FILE_BYTES}
use Rattle.mvm.specs.Alone.{runs_alone}
use Rattle.mvm.specs.Commands.{Accepts, Refuses, IsRunnable, IsOther}
use Rattle.mvm.specs.Launch.{Reading, Writing, HasRefused, AnswersTo, Answers, CanAnswer, IsNoRefusal}
use Rattle.mvm.specs.declared.outcome.What.{What}
use Rattle.mvm.specs.declared.outcome.What.TheVariants.{Ran, Made, Refused, OutOfMemory}
use Rattle.mvm.specs.declared.refusal.Refusal.{Refusal}
use Rattle.mvm.specs.declared.refusal.Refusal.TheVariants.{Usage, ReadFault, InputTooLong, Class, Assembly, WriteFault}
use Rattle.mvm.specs.declared.words.Command.{Command}
use Rattle.mvm.specs.declared.words.Command.TheVariants.{Run, Assemble, Disassemble}
use Rattle.mvm.proofs.CommandNames.{one_command}

-- no text is that of a class file and has a fault
unfaulty : (text : List ℕ) (parts : Parts) (fault : AsmFault) → class_of text ≡ Ok parts → ¬ (class_of text ≡ Err fault)
unfaulty text parts fault ok err = absurd cc

-- no bytes are a class file that runs alone and one that does not
unlike : (bytes : List ℕ) (parts : Parts) → IsRunnable bytes parts → ¬ IsOther bytes
unlike bytes parts runnable other =
    let same = one bytes parts other.parts runnable.class_file.reads other.class_file.reads in
    let both : true ≡ false = sym runnable.alone ∙ (ap runs_alone same ∙ other.other) in
    absurd cc

-- a command refuses no bytes that it accepts
unrefused : (command : Command) (bytes : List ℕ) (refusal : Refusal) → Accepts command bytes → ¬ Refuses command bytes refusal
unrefused Run bytes (Class fault) accepts (inl faulty) = faulty.unread accepts.0 accepts.1.class_file.reads
unrefused Run bytes (Class fault) accepts (inr other) = unlike bytes accepts.0 accepts.1 other.1
unrefused Run bytes Usage accepts refuses = refuses
unrefused Run bytes ReadFault accepts refuses = refuses
unrefused Run bytes InputTooLong accepts refuses = refuses
unrefused Run bytes (Assembly fault) accepts refuses = refuses
unrefused Run bytes (WriteFault count) accepts refuses = refuses
unrefused Assemble bytes (Class fault) accepts refuses = refuses
unrefused Assemble bytes Usage accepts refuses = refuses
unrefused Assemble bytes ReadFault accepts refuses = refuses
unrefused Assemble bytes InputTooLong accepts refuses = refuses
unrefused Assemble bytes (Assembly fault) accepts refuses = unfaulty bytes accepts.0 fault accepts.1 refuses
unrefused Assemble bytes (WriteFault count) accepts refuses = refuses
unrefused Disassemble bytes (Class fault) accepts refuses = refuses.unread accepts.0 accepts.1.reads
unrefused Disassemble bytes Usage accepts refuses = refuses
unrefused Disassemble bytes ReadFault accepts refuses = refuses
unrefused Disassemble bytes InputTooLong accepts refuses = refuses
unrefused Disassemble bytes (Assembly fault) accepts refuses = refuses
unrefused Disassemble bytes (WriteFault count) accepts refuses = refuses

-- nor does it refuse the bytes of a source that tells them
unrefused_source : (words : List (List ℕ)) (source : Reading) (sink : Writing) (refusal : Refusal) (can : CanAnswer words source sink) → ¬ HasRefused can.command source refusal
unrefused_source words source sink refusal can has =
    let told = subst (λ left. IfSome left (λ bytes. has.bytes ≡ bytes)) can.told has.read.told in
    unrefused can.command can.bytes refusal can.accepted (subst (λ bytes. Refuses can.command bytes refusal) told has.refused)

unstopped : (words : List (List ℕ)) (source : Reading) (sink : Writing) (what : What) (can : CanAnswer words source sink) → AnswersTo can.command source sink what → IsNoRefusal what
unstopped words source sink (Ran outcome) can says = tt
unstopped words source sink Made can says = tt
unstopped words source sink (Refused Usage) can says = says
unstopped words source sink (Refused ReadFault) can says = can.source_held says
unstopped words source sink (Refused InputTooLong) can says =
    let long = subst (λ left. IfSome left (λ bytes. MOST_FILE_BYTES < length bytes)) can.told says in
    not-le_of_lt long can.within
unstopped words source sink (Refused (Class fault)) can says = unrefused_source words source sink (Class fault) can says
unstopped words source sink (Refused (Assembly fault)) can says = unrefused_source words source sink (Assembly fault) can says
unstopped words source sink (Refused (WriteFault count)) can says = can.sink_held says.cause
unstopped words source sink OutOfMemory can says = tt

pub complete : (words : List (List ℕ)) (source : Reading) (sink : Writing) (what : What) → Answers words source sink what → CanAnswer words source sink → IsNoRefusal what
complete words source sink what (inl answered) can =
    let one = one_command words answered.command can.command answered.asked can.asked in
    unstopped words source sink what can (subst (λ command. AnswersTo command source sink what) one answered.says)
complete words source sink what (inr usage) can = absurd (usage.unasked can.command can.asked)
