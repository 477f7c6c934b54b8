use Rattle.std.proofs.Common.{◌+◌, arith}
use Rattle.mvm_frame.proofs.Placing.{length_part, written, set_locals, set_operands}
use Rattle.mvm_frame.proofs.stack.Stack.set_local.Goals as goal

pub overflow_add-place : goal.overflow_add-place
overflow_add-place c =
    let s = c.self.inside in
    let o = c.self.invariant.order in
    omega (arith, length_part s.top.bottom s.top.base s.slots.items o.base, rw (← c.self.view_is) at c.requires, o.base, c.self.invariant.few)

pub index_mut-requires : goal.index_mut-requires
index_mut-requires c =
    let s = c.self.inside in
    let o = c.self.invariant.order in
    omega (arith, length_part s.top.bottom s.top.base s.slots.items o.base, rw (← c.self.view_is) at c.requires, o.base)

pub invariant_of-self : goal.invariant_of-self
invariant_of-self c =
    let s = c.self.inside in
    written s.top s.callers.rows s.slots.items (s.top.bottom + c.args.at) c.args.slot c.self.invariant

pub returns-clause-operands : goal.returns-clause-operands
returns-clause-operands c =
    let s = c.self.inside in
    rw (← c.self.view_is) (set_operands s.top s.slots.items c.args.at c.args.slot c.self.invariant.order)

pub returns-clause-rest : goal.returns-clause-rest
returns-clause-rest c =
    let s = c.self.inside in
    rw (← c.self.view_is) (set_locals s.top s.callers s.slots.items c.args.at c.args.slot c.self.invariant (rw (← c.self.view_is) at c.requires))
