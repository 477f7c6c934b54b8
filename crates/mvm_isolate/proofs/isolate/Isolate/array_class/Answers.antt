use Rattle.std.proofs.lemmas.Result.{IfOk-weaker}
use Rattle.mvm_isolate.proofs.Held.{held}
use Rattle.mvm_isolate.proofs.Arraying.{added_stay, grows_arrays, named_arrays, row_within, shape_numbered}
use Rattle.mvm_isolate.proofs.isolate.Isolate.array_class.Goals as goal

pub returns-clause-there : goal.returns-clause-there
returns-clause-there c = IfOk-weaker c.add.result _ _ (λ row e. row_within c.args.shape.now c.add.new.self row e) c.add.ensures.number

pub returns-clause-shape : goal.returns-clause-shape
returns-clause-shape c = IfOk-weaker c.add.result _ _ (λ row e. shape_numbered c.args.shape.now c.add.new.self row e) c.add.ensures.number

pub returns-clause-same : goal.returns-clause-same
returns-clause-same c =
    let n = held c.self.inside in
    let stay = added_stay n.arrays c.add.new.self c.args.shape.now c.add.result c.add.ensures.rows c.add.ensures.err in
    rw (← c.self.view_is) (named_arrays n c.self.inside.known c.add.new.self c.self.invariant stay c.add.ensures.objects)

pub returns-clause-grows : goal.returns-clause-grows
returns-clause-grows c =
    let n = held c.self.inside in
    let stay = added_stay n.arrays c.add.new.self c.args.shape.now c.add.result c.add.ensures.rows c.add.ensures.err in
    rw (← c.self.view_is) (grows_arrays n c.add.new.self stay)
