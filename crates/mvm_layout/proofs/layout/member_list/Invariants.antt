use Rattle.std.proofs.Common.{◌≡◌, ◌-◌}
use Rattle.mvm_layout.specs.Format.{read_times}
use Rattle.mvm_layout.specs.Layout.{member}
use Rattle.mvm_layout.proofs.Loops.{with_front}
use Rattle.mvm_layout.proofs.layout.member_list.Given as goal

abbrev pub invariant-loop-i : goal.invariant-loop-i
invariant-loop-i l = with_front l.all (read_times member (l.count - l.i) l.cursor) ≡ read_times member l.count l.initial.cursor
