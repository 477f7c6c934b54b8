use Rattle.std.proofs.Common.{◌≡◌, ◌+◌, ◌-◌, ◌≤◌, ◌++◌, length, take, drop, reverse, replicate}
use Rattle.mvm_frame.specs.declared.slot.Slot.TheVariants.{Unset}
use Rattle.mvm_frame.specs.Laid.{part}
use Rattle.mvm_frame.proofs.lay.lay.Given as goal

abbrev pub invariant-unset : goal.invariant-unset
invariant-unset l = record {
  low : l.arguments ≤ l.at;
  high : l.at ≤ l.base;
  same : drop l.base l.slots.items ≡ drop l.base l.fn.slots.items;
  len : length l.slots.items ≡ length l.fn.slots.items;
  laid : part l.at l.base l.slots.items ≡ replicate (l.base - l.at) Unset;
}

abbrev pub decreases-unset : goal.decreases-unset
decreases-unset l = l.at

abbrev pub invariant-loop-k : goal.invariant-loop-k
invariant-loop-k l = record {
  place : l.at + l.k ≡ l.bottom + l.args;
  same : drop l.base l.slots.items ≡ drop l.base l.fn.slots.items;
  len : length l.slots.items ≡ length l.fn.slots.items;
  laid : part l.at l.base l.slots.items ≡ reverse (take l.k (drop l.sp l.fn.slots.items)) ++ replicate (l.base - l.bottom - l.args) Unset;
}
