-- What the methods of Isolate do.
use Rattle.std.specs.Prelude.{◌<◌, ◌^◌, ℕ, ℤ, pos, negsuc, nat_lt, ◌==◌, Option, Some, None, if◌then◌else◌}
use Rattle.std.specs.Option.{option_map}
use Rattle.mvm_history.specs.declared.ask.Ask.{Ask}
use Rattle.mvm_history.specs.declared.ask.Ask.TheVariants as ask
use Rattle.mvm_history.specs.declared.launch.Launch.{Launch}
use Rattle.mvm_native.specs.declared.out.Out.{Out}
use Rattle.mvm_native.specs.declared.out.Out.TheVariants.{Throw, Act}
use Rattle.mvm_native.specs.declared.out.Act.TheVariants as act
use Rattle.mvm_native.specs.declared.out.Thrown.TheVariants.{IllegalArgumentException}
use Rattle.mvm_native.specs.Machine.{Machine, gives_number}

-- number
unfoldable pub isolate_number : Machine → Out
isolate_number m = gives_number m.launch.number

-- the isolate of this number, where it is another one
abbrev pub other_isolate : ℤ → Launch → Option ℕ
other_isolate (pos n) launch = if n == launch.number then None else (if nat_lt n launch.count then Some n else None)
other_isolate (negsuc n) launch = None

abbrev pub asked_or_throw : Option Ask → Out
asked_or_throw (Some question) = Act (act.Ask question)
asked_or_throw None = Throw IllegalArgumentException

-- start
unfoldable pub start_isolate : ℤ → Machine → Out
start_isolate n m = asked_or_throw (option_map ask.Start (other_isolate n m.launch))

-- halt, with a status
unfoldable pub halt_isolate : ℤ → ℤ → Machine → Out
halt_isolate n status m = asked_or_throw (option_map (λ other. ask.Halt other status) (other_isolate n m.launch))

-- its number is an int
abbrev pub IsNumbered : Launch → Type 0
IsNumbered launch = launch.number < 2 ^ 31
