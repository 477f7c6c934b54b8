use Rattle.mvm_set.proofs.Counted.{few_fields}
use Rattle.mvm_set.proofs.own.field_places.Goals as goal

pub new-requires : goal.new-requires
new-requires c = rw (c.as_slice.ensures, c.parts.ensures.value) (few_fields c.args.file.now c.parts.ensures.short)
