use Rattle.std.proofs.Common.{arith, ap, ◌∙◌}
use Rattle.mvm_region.specs.Words.{Words}
use Rattle.mvm_heap.proofs.Blocks.{new_written}
use Rattle.mvm_heap.proofs.block.write_new.Goals as goal

pub returns-clause-object : goal.returns-clause-object
returns-clause-object c =
    rw (ap (λ (w : Words). w.words) c.set_word-2.ensures, ap (λ (w : Words). w.words) c.set_word.ensures)
    (new_written c.clear.new.region.words c.args.at c.args.sort c.args.class c.args.len c.first_word.result c.second_word.result
    (omega (arith, c.requires.end, c.requires.within, c.clear.ensures.length, c.words_needed-words.ensures.words, c.words_needed-words.ensures.headers))
    c.first_word.ensures.class c.first_word.ensures.len (c.second_word.ensures.sort ∙ c.sort_number.ensures.number)
    (λ k low high. c.clear.ensures.zero k low (omega (arith, high, c.requires.end))))
