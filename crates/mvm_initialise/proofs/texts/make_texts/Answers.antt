use Rattle.std.proofs.Common.{◌≡◌, ◌∙◌, List, ℕ, get_or, ap, sym, arith}
use Rattle.mvm_initialise.proofs.Filling.{filling_more}
use Rattle.mvm_initialise.proofs.texts.make_texts.Goals as goal

pub loop-place-preserved : goal.loop-place-preserved
loop-place-preserved c =
    filling_more c.args.isolate.now c.loop-place.isolate c.args.array c.args.texts.now c.loop-place.place c.index-texts-place.result (omega arith) c.index-texts-place.is c.loop-place.invariant
    c.put_text.new.isolate (rw c.units.ensures at c.put_text.ensures.does) c.put_text.ensures.keeps c.put_text.ensures.links c.put_text.ensures.grows
