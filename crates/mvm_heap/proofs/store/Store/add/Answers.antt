use Rattle.std.proofs.Common.{◌≡◌, ◌<◌, ◌≤◌, ◌+◌, ◌++◌, [], ◌∷◌, arith, length, subst}
use Rattle.mvm_heap.specs.Objects.{Stored}
use Rattle.mvm_heap.specs.Heap.{words, zeros, free}
use Rattle.mvm_heap.specs.Sorts.{words_needed}
use Rattle.mvm_heap.proofs.Blocks.{two_at_least}
use Rattle.mvm_heap.proofs.Stores.{Added, words_are, two_each, count, added_packed, added_seen, if_none, seen}
use Rattle.mvm_heap.proofs.store.Store.add.Goals as goal

pub overflow_cast-number : goal.overflow_cast-number
overflow_cast-number c = record { fits = omega (arith, c.len-number.ensures, c.self.inside.directory.ok.0, two_each _ _ _ c.self.invariant.packed, c.self.invariant.packed.within, c.self.invariant.packed.small) }

pub returns-in_err-at-clause-missing : goal.returns-in_err-at-clause-missing
returns-in_err-at-clause-missing c =
    if_none c.from_residual.result _
    (subst (λ (h : Stored). h.size < words h.objects + words_needed c.args.sort c.args.len) c.self.view_is (omega (arith, c.in_err-at.ensures.missing, words_are _ _ _ c.self.invariant.packed)))

pub unreachable-requires : goal.unreachable-requires
unreachable-requires c =
    omega (arith, c.in-Err.ensures.full, c.self.inside.directory.ok.0, c.in_ok-at.ensures.carved, c.in_ok-at.ensures.within, c.in_ok-at.ensures.length, two_at_least c.args.sort c.args.len, two_each _ _ _ c.self.invariant.packed, c.self.invariant.room)

added : (c : goal.In-Ok) → Added c.self.inside.region.words c.place.new.region.words c.self.inside.region.carved c.args.sort c.args.class c.args.len
added c = record {
  before = c.in_ok-at.ensures.before;
  object = rw c.in_ok-at.ensures.start at c.in_ok-at.ensures.object;
  monitor = rw c.in_ok-at.ensures.start at c.in_ok-at.ensures.monitor;
  length = c.in_ok-at.ensures.length;
}

pub invariant_of-self-2 : goal.invariant_of-self-2
invariant_of-self-2 c =
    rw (c.in-Ok.ensures.items, c.in_ok-at.ensures.start, c.in_ok-at.ensures.carved) (record {
      packed = added_packed _ _ _ _ _ _ _ c.self.invariant.packed (added c) (omega (arith, c.in_ok-at.ensures.carved, c.in_ok-at.ensures.within));
      room = omega (arith, c.self.invariant.room, c.in-Ok.ensures.capacity, c.in_ok-at.ensures.length);
    })

pub returns-clause-fits : goal.returns-clause-fits
returns-clause-fits c =
    subst (λ (h : Stored). words h.objects + words_needed c.args.sort c.args.len ≤ h.size) c.self.view_is
    (omega (arith, words_are _ _ _ c.self.invariant.packed, c.in_ok-at.ensures.carved, c.in_ok-at.ensures.within, c.in_ok-at.ensures.length))

pub returns-clause-number : goal.returns-clause-number
returns-clause-number c =
    subst (λ (h : Stored). c.len-number.result ≡ length h.objects) c.self.view_is (omega (arith, c.len-number.ensures, c.self.inside.directory.ok.0, count c.self.inside.region.words c.self.inside.directory.items))

pub returns-clause-few : goal.returns-clause-few
returns-clause-few c = omega (arith, c.len-number.ensures, c.self.inside.directory.ok.0, two_each _ _ _ c.self.invariant.packed, c.self.invariant.packed.within, c.self.invariant.packed.small)

pub returns-clause-added : goal.returns-clause-added
returns-clause-added c =
    rw (c.in-Ok.ensures.items, c.in_ok-at.ensures.start)
    (subst (λ (h : Stored). seen c.place.new.region.words (c.self.inside.directory.items ++ c.self.inside.region.carved ∷ []) ≡ record { objects = h.objects ++ zeros c.args.sort c.args.class c.args.len ∷ []; monitors = h.monitors ++ free ∷ []; size = h.size }) c.self.view_is
    (added_seen _ _ _ _ _ _ _ c.self.invariant.packed (added c)))
