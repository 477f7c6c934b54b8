-- What an answer of `launch` says, in the order in which a call goes: its words, its source, the command, its sink.
use Rattle.std.specs.Prelude.{◌≡◌, ℕ, ◌<◌, ◌≤◌, ◌⊎◌, List, [], ◌∷◌, length, take, Option, Some, IfSome, ⊤, codes}
use Rattle.std.specs.Io.KnownBytes.{Appends, IsAtEnd}
use Rattle.mvm_outside.specs.Causes.{Rose}
use Rattle.mvm_outside.specs.declared.traits.TheConstants.{MOST_FILE_BYTES}
use Rattle.mvm.specs.Commands.{Accepts, Makes, Refuses, IsNamed}
use Rattle.mvm.specs.declared.outcome.What.{What}
use Rattle.mvm.specs.declared.outcome.What.TheVariants.{Ran, Made, Refused, OutOfMemory}
use Rattle.mvm.specs.declared.refusal.Refusal.{Refusal}
use Rattle.mvm.specs.declared.refusal.Refusal.TheVariants.{Usage, ReadFault, InputTooLong, Class, Assembly, WriteFault}
use Rattle.mvm.specs.declared.words.Command.{Command}
use Rattle.mvm.specs.declared.words.Command.TheVariants.{Run, Assemble, Disassemble}

-- ---- the words

abbrev pub name_of : Command → List ℕ
name_of Run = codes "run"
name_of Assemble = codes "asm"
name_of Disassemble = codes "dump"

-- the words are the name of the command, and nothing else
abbrev pub AsksFor : List (List ℕ) → Command → Type 0
AsksFor words command = words ≡ name_of command ∷ []

-- ---- the source

-- a source before and after a call: the bytes that it has left, where it tells them, and its count of faults
pub record Reading : Type 0 where
  pub left_before : Option (List ℕ)
  pub left_after : Option (List ℕ)
  pub faults_before : ℕ
  pub faults_after : ℕ

abbrev pub reading : {S : Type 0} → (S → Option (List ℕ)) → (S → ℕ) → S → S → Reading
reading left faults old new = record { left_before = left old; left_after = left new; faults_before = faults old; faults_after = faults new }

-- the source failed in this call
abbrev pub SourceFailed : Reading → Type 0
SourceFailed source = Rose source.faults_before source.faults_after

-- the source had more bytes left than an input may have
abbrev pub IsTooLong : Reading → Type 0
IsTooLong source = IfSome source.left_before (λ left. MOST_FILE_BYTES < length left)

-- the source was read to its end, and these are all bytes that it had left
pub record HasRead (source : Reading) (bytes : List ℕ) : Type 0 where
  pub told : IfSome source.left_before (λ left. bytes ≡ left)
  pub ended : IsAtEnd source.left_after
  pub within : length bytes ≤ MOST_FILE_BYTES

-- ---- the command

-- the source was read to its end, and of its bytes the command makes this answer and this output
pub record HasMade (command : Command) (source : Reading) (what : What) (output : List ℕ) : Type 0 where
  pub bytes : List ℕ
  pub read : HasRead source bytes
  pub made : Makes command bytes what output

-- the source was read to its end, and the command refuses its bytes, for this reason
pub record HasRefused (command : Command) (source : Reading) (refusal : Refusal) : Type 0 where
  pub bytes : List ℕ
  pub read : HasRead source bytes
  pub refused : Refuses command bytes refusal
  pub named : IsNamed refusal

-- ---- the sink

-- a sink before and after a call: the bytes that it took, where it tells them, and its counts of faults and of idle writes
pub record Writing : Type 0 where
  pub taken_before : Option (List ℕ)
  pub taken_after : Option (List ℕ)
  pub faults_before : ℕ
  pub faults_after : ℕ
  pub idle_before : ℕ
  pub idle_after : ℕ

abbrev pub writing : {K : Type 0} → (K → Option (List ℕ)) → (K → ℕ) → (K → ℕ) → K → K → Writing
writing taken faults idle old new = record { taken_before = taken old; taken_after = taken new; faults_before = faults old; faults_after = faults new; idle_before = idle old; idle_after = idle new }

-- the sink took this text after what it had, and nothing else
abbrev pub Takes : Writing → List ℕ → Type 0
Takes sink text = Appends sink.taken_before sink.taken_after text

-- the sink failed in this call, or took nothing of a piece
abbrev pub SinkFailed : Writing → Type 0
SinkFailed sink = Rose sink.faults_before sink.faults_after ⊎ Rose sink.idle_before sink.idle_after

-- the command has this answer, and the sink took its output
pub record HasWritten (command : Command) (source : Reading) (sink : Writing) (what : What) : Type 0 where
  pub output : List ℕ
  pub made : HasMade command source what output
  pub taken : Takes sink output

-- the command had an answer, and so many bytes of its output were taken before the sink failed
pub record HasCut (command : Command) (source : Reading) (sink : Writing) (count : ℕ) : Type 0 where
  pub what : What
  pub output : List ℕ
  pub made : HasMade command source what output
  pub short : count < length output
  pub taken : Takes sink (take count output)
  pub cause : SinkFailed sink

-- ---- the answer

-- what each answer to a command says
abbrev pub AnswersTo : Command → Reading → Writing → What → Type 0
AnswersTo command source sink (Ran outcome) = HasWritten command source sink (Ran outcome)
AnswersTo command source sink Made = HasWritten command source sink Made
AnswersTo command source sink (Refused Usage) = ⊥
AnswersTo command source sink (Refused ReadFault) = SourceFailed source
AnswersTo command source sink (Refused InputTooLong) = IsTooLong source
AnswersTo command source sink (Refused (Class fault)) = HasRefused command source (Class fault)
AnswersTo command source sink (Refused (Assembly fault)) = HasRefused command source (Assembly fault)
AnswersTo command source sink (Refused (WriteFault count)) = HasCut command source sink count
AnswersTo command source sink OutOfMemory = ⊤

-- the words ask for a command, and this is an answer to it
pub record IsAnswered (words : List (List ℕ)) (source : Reading) (sink : Writing) (what : What) : Type 0 where
  pub command : Command
  pub asked : AsksFor words command
  pub says : AnswersTo command source sink what

-- the words ask for no command, which a usage refusal tells
pub record IsUsage (words : List (List ℕ)) (what : What) : Type 0 where
  pub unasked : (command : Command) → ¬ AsksFor words command
  pub told : what ≡ Refused Usage

abbrev pub Answers : List (List ℕ) → Reading → Writing → What → Type 0
Answers words source sink what = IsAnswered words source sink what ⊎ IsUsage words what

-- there was an output to write
abbrev pub HasOutput : What → Type 0
HasOutput (Ran outcome) = ⊤
HasOutput Made = ⊤
HasOutput (Refused (WriteFault count)) = ⊤
HasOutput _ = ⊥

-- ---- completeness

-- Nothing stands in the way of a command: the words ask for it, the source tells its bytes, which are what the command asks for, and neither
-- the source nor the sink failed.
pub record CanAnswer (words : List (List ℕ)) (source : Reading) (sink : Writing) : Type 0 where
  pub command : Command
  pub asked : AsksFor words command
  pub bytes : List ℕ
  pub told : source.left_before ≡ Some bytes
  pub within : length bytes ≤ MOST_FILE_BYTES
  pub accepted : Accepts command bytes
  pub source_held : ¬ SourceFailed source
  pub sink_held : ¬ SinkFailed sink

-- the answer is a run or an output that was made, or memory ran out
abbrev pub IsNoRefusal : What → Type 0
IsNoRefusal (Refused refusal) = ⊥
IsNoRefusal _ = ⊤
