use Rattle.std.proofs.Common.{◌∙◌, ◌-◌, length, take, drop, ap, arith}
use Rattle.std.specs.Prelude.{slice_index_or}
use Rattle.mvm_heap.specs.Sorts.{words_needed}
use Rattle.mvm_heap.specs.declared.kind.ItemKind.{ItemKind}
use Rattle.mvm_heap.specs.declared.kind.ObjectKind.TheVariants.{Array}
use Rattle.mvm_isolate.specs.Types.{items_of}
use Rattle.mvm_initialise.specs.declared.arrays.Dimension.{Dimension}
use Rattle.mvm_initialise.proofs.Dimensions.{cut, words_more, words_none}
use Rattle.mvm_initialise.proofs.arrays.+array_words.Goals as goal

pub returns-in_default : goal.returns-in_default
returns-in_default t c = words_none c.args.isolate.now c.args.dimensions.now (omega (arith, c.in_default.len_below))

pub returns : goal.returns
returns t c =
    let first : Dimension = (slice_index_or c.args.dimensions.now 0 (record { row = 0; count = 0 })) in
    words_more c.args.isolate.now c.args.dimensions.now first (take (length c.args.dimensions.now - 1) (drop 1 c.args.dimensions.now))
    (cut c.args.dimensions.now (record { row = 0; count = 0 }) (omega (arith, c.in-len1-up.len_at_least))) c.requires
    c.words_needed-own.result c.array_words.result c.times.result c.added.result
    (c.words_needed-own.ensures.words ∙ ap (λ (kind : ItemKind). words_needed (Array kind) first.count) (c.items_of-kind.ensures ∙ ap items_of c.array_shape.ensures))
    c.array_words.ensures c.times.ensures c.added.ensures
