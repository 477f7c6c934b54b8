use Rattle.std.proofs.Common.{◌≡◌, ◌<◌, ◌≤◌, ◌%◌, ◌++◌, [], ◌∷◌, ◌∙◌, ℕ, ap, sym, subst, arith, length}
use Rattle.std.proofs.lemmas.List.{get_or_default}
use Rattle.mvm_heap.specs.Objects.{Held}
use Rattle.mvm_heap.specs.Heap.{text, object_at}
use Rattle.mvm_heap.specs.Index.{numbers, hashed}
use Rattle.mvm_heap.proofs.Chains.{indexed_more, numbers_push, numbers_count}
use Rattle.mvm_heap.proofs.heap.Heap.note.Goals as goal

pub overflow_cast-place : goal.overflow_cast-place
overflow_cast-place c =
    let few = subst (λ (h : Held). length h.state.texts ≤ c.args.number) (sym c.self.view_is) c.requires.last in
    record { fits = omega (arith, c.len-place.ensures, c.self.inside.entries.ok.0, few, numbers_count c.self.inside.entries.items, c.requires.small) }

pub overflow_add-place : goal.overflow_add-place
overflow_add-place c =
    let few = subst (λ (h : Held). length h.state.texts ≤ c.args.number) (sym c.self.view_is) c.requires.last in
    record { fits = omega (arith, c.len-place.ensures, c.self.inside.entries.ok.0, few, numbers_count c.self.inside.entries.items, c.requires.small) }

pub invariant_of-self : goal.invariant_of-self
invariant_of-self c =
    let few : length (numbers c.self.inside.entries.items) ≤ c.args.number = subst (λ (h : Held). length h.state.texts ≤ c.args.number) (sym c.self.view_is) c.requires.last in
    let there : c.args.number < length c.self.inside.store.objects = subst (λ (h : Held). c.args.number < length h.state.objects) (sym c.self.view_is) c.requires.there in
    let object : object_at c.self.inside.store.objects c.args.number ≡ text c.args.units.now = subst (λ (h : Held). object_at h.state.objects c.args.number ≡ text c.args.units.now) (sym c.self.view_is) c.requires.sort in
    let count : c.len-place.result ≡ length c.self.inside.entries.items = c.len-place.ensures ∙ c.self.inside.entries.ok.0 in
    let buckets : c.len.result ≡ length c.self.inside.heads.items = c.len.ensures ∙ c.self.inside.heads.ok.0 in
    let within : c.bucket_of-bucket.result < length c.self.inside.heads.items = omega (arith, c.bucket_of-bucket.ensures.within, buckets) in
    rw (c.in-Ok.ensures.items, count)
    (indexed_more c.self.inside.store.objects c.self.inside.entries.items c.self.inside.heads.items c.args.units.now (record { number = c.args.number; before = c.index-before.result.now }) c.bucket_of-bucket.result c.self.invariant object there
    (omega (arith, few, numbers_count c.self.inside.entries.items)) (c.bucket_of-bucket.ensures.bucket ∙ ap (λ (m : ℕ). hashed c.args.units.now % m) buckets) within
    (c.index-before.ensures ∙ sym (get_or_default c.self.inside.heads.items c.bucket_of-bucket.result 0 c.index-before.result.now within)))

pub returns-clause-state : goal.returns-clause-state
returns-clause-state c = rw (c.in-Ok.ensures.items, numbers_push _ _) (ap (λ (h : Held). record { objects = h.state.objects; monitors = h.state.monitors; texts = h.state.texts ++ c.args.number ∷ []; size = h.state.size }) c.self.view_is)
