use Rattle.std.proofs.Common.{◌≡◌, ◌+◌, ℕ, List, [], ◌∷◌, ◌++◌, Option, map, take, string_bytes, sym, ap, subst, ◌∙◌, rules, Global}
use Rattle.std.specs.Prelude.{IfSome}
use Rattle.mvm_outside.specs.Files.{Files}
use Rattle.mvm_classes.specs.Words.{AreOf, IsMore}
use Rattle.mvm_classes.proofs.WordMore.{next_word, word_more}
use Rattle.mvm_classes.proofs.files.table_of.Goals as goal

pub loop-i-preserved : goal.loop-i-preserved
loop-i-preserved g c =
    let words = map (string_bytes {Z = Global}) c.args.words.now in
    let word = c.as_str.result.now in
    let told = g.S.Store.files c.args.store.now in
    let old = c.loop-i.classes in
    let new = c.add_word.new.classes in
    let next : take (c.loop-i.i + 1) words ≡ take c.loop-i.i words ++ string_bytes {Z = Global} c.index-words-i.result ∷ [] =
    next_word (string_bytes {Z = Global}) c.args.words.now c.loop-i.i c.index-words-i.result (search rules) (search rules) in
    let spelled : word ≡ string_bytes {Z = Global} c.index-words-i.result = search rules in
    let more = subst (λ (some : Option Files). IfSome some (λ files. IsMore files word old new)) c.loop-i.invariant.kept c.in_ok-add_word.ensures.more in
    record {
      kept = c.add_word.ensures.kept ∙ c.loop-i.invariant.kept;
      of = subst (λ (taken : List (List ℕ)). IfSome told (λ files. AreOf files taken new)) (sym (next ∙ ap (λ (one : List ℕ). take c.loop-i.i words ++ one ∷ []) (sym spelled))) (word_more told (take c.loop-i.i words) word old new c.loop-i.invariant.of more);
    }
