use Rattle.std.proofs.Common.{◌+◌, ◌≤◌, ◌<◌, length, arith}
use Rattle.mvm_frame.specs.Calls.{grown}
use Rattle.mvm_frame.proofs.Shuffling.{needs_one, shuffle_few, shuffle_moved}
use Rattle.mvm_frame.proofs.stack.Stack.shuffle_by.Goals as goal

pub returns-then-depth-needed-clause-does : goal.returns-then-depth-needed-clause-does
returns-then-depth-needed-clause-does c =
    let o = c.args.self.now.operands in
    let room : length o.slots + grown c.args.shuffle ≤ o.depth = omega (arith, c.room.ensures.is, c.room.ensures.within, c.if-room-grown.false, c.grown.ensures) in
    rw c.no_frame_or-then-depth-needed.ensures (shuffle_few c.args.self.now.rest.below c.args.shuffle o room (omega (arith, c.if-depth-needed.true, c.depth-depth.ensures.is, c.needed.ensures)))

pub returns-clause-does : goal.returns-clause-does
returns-clause-does c =
    let o = c.args.self.now.operands in
    let room : length o.slots + grown c.args.shuffle ≤ o.depth = omega (arith, c.room.ensures.is, c.room.ensures.within, c.if-room-grown.false, c.grown.ensures) in
    let pos : 0 < c.depth-depth.result = omega (arith, needs_one c.args.shuffle, c.if-depth-needed.false, c.needed.ensures) in
    shuffle_moved c.moved.result c.args.self.now.rest.below c.args.shuffle o c.moved.new.stack.operands (c.depth-depth.ensures.frame pos) room c.moved.ensures.depth c.moved.ensures.does
