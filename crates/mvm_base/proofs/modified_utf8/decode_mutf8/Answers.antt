use Rattle.std.proofs.Common.{◌≡◌, ◌∙◌, sym, subst, ◌++◌, ℕ, List}
use Rattle.mvm_base.specs.ModifiedUtf8.{spelled_all, AreUnits}
use Rattle.mvm_base.proofs.Units.{fault_only, fault_is, fault_place, fault_there, told_there, whole_only, whole_place, one_more, spelled_more, shorter, some_left, none_now}
use Rattle.mvm_base.proofs.modified_utf8.decode_mutf8.Goals as goal

pub loop-rest-smaller : goal.loop-rest-smaller
loop-rest-smaller c = shorter _ _ _ c.in-Some.ensures.some

pub loop-rest-preserved : goal.loop-rest-preserved
loop-rest-preserved c = record {
  fits = subst AreUnits (sym c.in_ok-push-in-Some.ensures.items) (one_more _ _ c.loop-rest.invariant.fits c.in-Some.ensures.fits);
  bytes = subst (λ (us : List ℕ). c.args.bytes.now ≡ spelled_all us ++ c.in-Some.more.now) (sym c.in_ok-push-in-Some.ensures.items) (spelled_more _ _ _ _ _ c.loop-rest.invariant.bytes c.in-Some.ensures.some);
}

pub returns-in-None-clause-only : goal.returns-in-None-clause-only
returns-in-None-clause-only c = λ units h e. absurd (fault_only _ c.loop-rest.units.items c.loop-rest.rest.now units c.loop-rest.invariant.fits c.loop-rest.invariant.bytes c.in-None.ensures.none (some_left _ c.loop-rest-test.ensures) h e)

pub returns-in-None-clause-bad : goal.returns-in-None-clause-bad
returns-in-None-clause-bad c = λ place e. fault_there _ _ place e (fault_is _ c.loop-rest.units.items c.loop-rest.rest.now c.loop-rest.invariant.fits c.loop-rest.invariant.bytes c.in-None.ensures.none (some_left _ c.loop-rest-test.ensures))

pub returns-in-None-clause-bad_only : goal.returns-in-None-clause-bad_only
returns-in-None-clause-bad_only c = λ place bad. told_there _ place (fault_place _ c.loop-rest.units.items c.loop-rest.rest.now place c.loop-rest.invariant.fits c.loop-rest.invariant.bytes c.in-None.ensures.none bad)

pub returns-clause-found : goal.returns-clause-found
returns-clause-found c = subst (λ (us : List ℕ). AreUnits us × (c.args.bytes.now ≡ spelled_all us)) (sym c.from_vec.ensures) (c.loop-rest.invariant.fits, none_now _ _ _ c.loop-rest-test.ensures c.loop-rest.invariant.bytes)

pub returns-clause-only : goal.returns-clause-only
returns-clause-only c = λ units h e. (let k = whole_only _ _ units c.loop-rest.invariant.fits (none_now _ _ _ c.loop-rest-test.ensures c.loop-rest.invariant.bytes) h e ∙ sym c.from_vec.ensures in cc)

pub returns-clause-bad_only : goal.returns-clause-bad_only
returns-clause-bad_only c = λ place bad. absurd (whole_place _ _ place c.loop-rest.invariant.fits (none_now _ _ _ c.loop-rest-test.ensures c.loop-rest.invariant.bytes) bad)
