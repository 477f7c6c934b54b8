use Rattle.std.proofs.Common.{◌+◌, ◌≤◌, refl, arith}
use Rattle.mvm_frame.proofs.Placing.{depth_is, rows_given, words_given, enters, entered_is, entered_stands}
use Rattle.mvm_frame.proofs.stack.Stack.enter_with.Goals as goal

pub overflow_sub-bottom : goal.overflow_sub-bottom
overflow_sub-bottom c =
    let s = c.self.inside in
    omega (arith, words_given s.top s.callers s.slots.items c.args.self.now c.args.locals c.args.depth c.self.invariant c.self.view_is c.if-not-fits.ensures)

pub lay-requires-clause-locals : goal.lay-requires-clause-locals
lay-requires-clause-locals c =
    let s = c.self.inside in
    omega (arith, c.requires.locals, words_given s.top s.callers s.slots.items c.args.self.now c.args.locals c.args.depth c.self.invariant c.self.view_is c.if-not-fits.ensures)

pub lay-requires-clause-within : goal.lay-requires-clause-within
lay-requires-clause-within c =
    let s = c.self.inside in
    let o = c.self.invariant.order in
    omega (arith, depth_is s.top s.callers s.slots.items c.self.invariant, rw (← c.self.view_is) at c.requires.operands, o.sp, o.bottom, o.base)

pub push-requires : goal.push-requires
push-requires c =
    let s = c.self.inside in
    rows_given s.top s.callers s.slots.items c.args.self.now c.args.locals c.args.depth c.self.view_is c.if-not-fits.ensures

pub overflow_sub-self : goal.overflow_sub-self
overflow_sub-self c =
    let s = c.self.inside in
    omega (arith, words_given s.top s.callers s.slots.items c.args.self.now c.args.locals c.args.depth c.self.invariant c.self.view_is c.if-not-fits.ensures)

pub invariant_of-self : goal.invariant_of-self
invariant_of-self c =
    let s = c.self.inside in
    let o = c.self.invariant.order in
    let room = words_given s.top s.callers s.slots.items c.args.self.now c.args.locals c.args.depth c.self.invariant c.self.view_is c.if-not-fits.ensures in
    let few : s.top.sp + c.args.args ≤ s.top.bottom = omega (arith, depth_is s.top s.callers s.slots.items c.self.invariant, rw (← c.self.view_is) at c.requires.operands, o.sp) in
    let h = entered_stands s.top s.callers.rows s.slots.items c.lay.new.slots.items c.args.key c.args.locals c.args.depth c.args.args c.self.invariant room few c.lay.ensures.len in
    rw c.push.ensures h

pub returns-clause-does : goal.returns-clause-does
returns-clause-does c =
    let s = c.self.inside in
    let room = words_given s.top s.callers s.slots.items c.args.self.now c.args.locals c.args.depth c.self.invariant c.self.view_is c.if-not-fits.ensures in
    let few = rw (← c.self.view_is) at c.requires.operands in
    let e = entered_is s.top s.callers s.slots.items c.lay.new.slots.items c.args.key c.args.locals c.args.depth c.args.args c.self.invariant few room c.lay.ensures.locals c.lay.ensures.above c.lay.ensures.len in
    rw (enters c.args.key c.args.locals c.args.depth c.args.args c.args.self.now c.if-not-fits.ensures, ← c.self.view_is, c.push.ensures, e) refl
