-- The status of an answer.
use Rattle.std.specs.Prelude.{ℕ, pos, Bool, false, if◌then◌else◌}
use Rattle.std.specs.List.{list_all}
use Rattle.std.specs.Ordering.{int_eq}
use Rattle.mvm.specs.declared.outcome.Outcome.{Outcome}
use Rattle.mvm.specs.declared.outcome.What.{What}
use Rattle.mvm.specs.declared.outcome.What.TheVariants.{Ran, Made, Refused, OutOfMemory}
use Rattle.mvm.specs.declared.refusal.Refusal.{Refusal}
use Rattle.mvm.specs.declared.refusal.Refusal.TheVariants.{Usage, ReadFault, InputTooLong, Class, Assembly, WriteFault}
use Rattle.mvm_history.specs.declared.end.End.{End}
use Rattle.mvm_history.specs.declared.end.End.TheVariants.{Exit}

abbrev pub is_success : End → Bool
is_success (Exit code) = int_eq code (pos 0)
is_success _ = false

-- 0 where each isolate ended with exit 0, else 1
abbrev pub run_status : Outcome → ℕ
run_status outcome = if list_all (λ block. is_success block.end) outcome.isolates then 0 else 1

abbrev pub refusal_status : Refusal → ℕ
refusal_status Usage = 2
refusal_status ReadFault = 3
refusal_status InputTooLong = 4
refusal_status (Class fault) = 4
refusal_status (Assembly fault) = 4
refusal_status (WriteFault count) = 5

abbrev pub status_of : What → ℕ
status_of (Ran outcome) = run_status outcome
status_of Made = 0
status_of (Refused refusal) = refusal_status refusal
status_of OutOfMemory = 6
