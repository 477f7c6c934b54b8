-- What print and println do (Java SE 8 API, java.io.PrintStream).
use Rattle.std.specs.Prelude.{ℕ, ◌+◌, List, ◌++◌, length, nat_lt, None, codes, if◌then◌else◌}
use Rattle.mvm_history.specs.declared.end.LimitKind.TheVariants.{Output}
use Rattle.mvm_native.specs.declared.out.Out.{Out}
use Rattle.mvm_native.specs.declared.out.Out.TheVariants.{Value, Limit}
use Rattle.mvm_native.specs.Machine.{Machine}
use Rattle.mvm_native.specs.Texts.{shown}

-- printed, unless that would pass the limit; then nothing is
unfoldable pub printed : List ℕ → Machine → Out × Machine
printed bytes m =
    if nat_lt m.launch.limits.output (length m.output + length bytes) then (Limit Output, m) else
    (Value None, record m { output = m.output ++ bytes })

-- print of the units of a text
abbrev pub print : List ℕ → Machine → Out × Machine
print units m = printed (shown units) m

-- println: a line feed ends the line
abbrev pub println : List ℕ → Machine → Out × Machine
println units m = printed (shown units ++ codes "\n") m

-- println of nothing
abbrev pub println_nothing : Machine → Out × Machine
println_nothing m = printed (codes "\n") m
