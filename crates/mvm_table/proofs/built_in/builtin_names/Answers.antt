use Rattle.std.proofs.Common.{◌≡◌, ℕ, List, true, subst, sym, arith}
use Rattle.mvm_table.specs.Load.{is_in}
use Rattle.mvm_table.proofs.BuiltIns.{names_more, has_names}
use Rattle.mvm_table.proofs.built_in.builtin_names.Goals as goal

pub loop-place-preserved : goal.loop-place-preserved
loop-place-preserved c = λ place name w n.
    subst (λ (names : List (List ℕ)). is_in names name ≡ true) (sym c.in_ok-push.ensures.items)
    (names_more c.loop-place.names.items c.loop-place.place c.in_ok-name.name c.in_ok-name.ensures c.loop-place.invariant place name w n)

pub returns : goal.returns
returns c =
    has_names c.loop-place.names.items c.builtin_law.ensures.count c.builtin_law.ensures.placed c.builtin_law.ensures.named
    (λ place name w n. c.loop-place.invariant place name (omega (arith, w, c.loop-place-test.false)) n)
