use Rattle.std.proofs.Common.{◌<◌, ◌+◌, sym, ap, ◌∙◌, ◌∷◌, arith}
use Rattle.mvm_frame.specs.Laid.{part}
use Rattle.mvm_frame.proofs.Placing.{depth_is, moved, part_first}
use Rattle.mvm_frame.proofs.stack.Stack.take.Goals as goal

pub index-requires : goal.index-requires
index-requires c =
    let s = c.self.inside in
    let o = c.self.invariant.order in
    omega (arith, depth_is s.top s.callers s.slots.items c.self.invariant, rw (← c.self.view_is) at c.requires, o.bottom, o.base)

pub invariant_of-self : goal.invariant_of-self
invariant_of-self c =
    let s = c.self.inside in
    let o = c.self.invariant.order in
    let h : s.top.sp < s.top.bottom = omega (arith, depth_is s.top s.callers s.slots.items c.self.invariant, rw (← c.self.view_is) at c.requires) in
    moved s.top s.callers.rows s.slots.items _ c.self.invariant (omega (arith, o.floor)) (omega (arith, h))

pub returns-clause-slots : goal.returns-clause-slots
returns-clause-slots c =
    let s = c.self.inside in
    let o = c.self.invariant.order in
    let h : s.top.sp < s.top.bottom = omega (arith, depth_is s.top s.callers s.slots.items c.self.invariant, rw (← c.self.view_is) at c.requires) in
    let e = part_first s.top.sp s.top.bottom s.slots.items c.index.result.now h (omega (arith, o.bottom, o.base)) in
    rw (← c.self.view_is) (e ∙ ap (λ x. x ∷ part (s.top.sp + 1) s.top.bottom s.slots.items) (sym c.index.ensures))
