use Rattle.mvm_set.proofs.Counted.{few_fields, few_methods}
use Rattle.mvm_set.proofs.index.Index.new.Goals as goal

pub places_of-requires-clause-few : goal.places_of-requires-clause-few
places_of-requires-clause-few c = rw (c.as_slice.ensures, c.parts-parts.ensures.value) (few_fields c.args.file.now c.parts-parts.ensures.short)

pub places_of-requires-2-clause-few : goal.places_of-requires-2-clause-few
places_of-requires-2-clause-few c = rw (c.as_slice-2.ensures, c.parts-parts.ensures.value) (few_methods c.args.file.now c.parts-parts.ensures.short)
