-- Which threads send and receive on the links.
use native.Mathlib.Omega.{arith}
use Rattle.std.proofs.Common.{◌≡◌, ◌≤◌, ◌<◌, refl, sym, ◌∙◌, ap}
use Rattle.std.proofs.lemmas.Bool.Decides.{nat_tests}
use Rattle.std.specs.Prelude.{if◌then◌else◌}
use Rattle.std.specs.Prelude.{◌≢◌, ℕ, zero, suc, ◌+◌, List, [], ◌∷◌, ◌++◌, map, Bool, true, false, ◌==◌, nat_lt, Option, Some, None, slice_get, slice_set}
use Rattle.mvm_isolate.specs.Numbered.{Numbered}
use Rattle.mvm_native.specs.declared.env.LinkUse.{LinkUse}
use Rattle.mvm_object.specs.Coming.{doing_named}
use Rattle.mvm_object.specs.Going.{Doing, ready, entering, waiting, initing, joining, sending, receiving, asking, ended}
use Rattle.mvm_object.specs.declared.state.ThreadState.{ThreadState}
use Rattle.mvm_object.specs.declared.state.ThreadState.TheVariants as state
use Rattle.mvm_thread.specs.State.{Thread, is_outside, sends_on, receives_on, first_from, use_by, uses_from}
use Rattle.mvm_interp.specs.Linking.{earliest, sending_use, receiving_use, updated, linked}
use Rattle.mvm_interp.specs.Names.{closed_in}

-- ---- a thread that waits for nothing outside sends and receives on no link

pub inside_sends : (link : ℕ) (doing : Doing) → is_outside doing ≡ false → sends_on link doing ≡ false
inside_sends link ready e = refl
inside_sends link (entering object count) e = refl
inside_sends link (waiting object count) e = refl
inside_sends link (initing class) e = refl
inside_sends link (joining thread) e = refl
inside_sends link (sending other) e = absurd (let k : true ≡ false = e in cc)
inside_sends link (receiving other) e = refl
inside_sends link asking e = refl
inside_sends link ended e = refl

pub inside_receives : (link : ℕ) (doing : Doing) → is_outside doing ≡ false → receives_on link doing ≡ false
inside_receives link ready e = refl
inside_receives link (entering object count) e = refl
inside_receives link (waiting object count) e = refl
inside_receives link (initing class) e = refl
inside_receives link (joining thread) e = refl
inside_receives link (sending other) e = refl
inside_receives link (receiving other) e = absurd (let k : true ≡ false = e in cc)
inside_receives link asking e = refl
inside_receives link ended e = refl

-- ---- the first thread of which that holds

pub first_same : (holds : Doing → Bool) (start i : ℕ) (ts : List Thread) (t new : Thread) → slice_get ts i ≡ Some t → holds new.doing ≡ holds t.doing → first_from start holds (slice_set ts i new) ≡ first_from start holds ts
first_same holds start i [] t new e f = refl
first_same holds start zero (u ∷ us) t new e f =
    let s : t ≡ u = cc in
    let h : holds new.doing ≡ holds u.doing = f ∙ ap (λ (x : Thread). holds x.doing) s in
    rw h refl
first_same holds start (suc i) (u ∷ us) t new e f = rw (first_same holds (start + 1) i us t new e f) refl

pub first_map : (holds : Doing → Bool) (f : Thread → Thread) → ((t : Thread) → holds (f t).doing ≡ holds t.doing) → (start : ℕ) (ts : List Thread) → first_from start holds (map f ts) ≡ first_from start holds ts
first_map holds f same start [] = refl
first_map holds f same start (t ∷ ts) = rw (same t, first_map holds f same (start + 1) ts) refl

pub first_behind : (holds : Doing → Bool) (start : ℕ) (ts : List Thread) (t : Thread) → holds t.doing ≡ false → first_from start holds (ts ++ t ∷ []) ≡ first_from start holds ts
first_behind holds start [] t e = rw e refl
first_behind holds start (u ∷ us) t e = rw (first_behind holds (start + 1) us t e) refl

head_by : (start other : ℕ) (rest : Option ℕ) (b : Bool) → (rest ≡ Some other → start + 1 ≤ other) → (if b then Some start else rest) ≡ Some other → start ≤ other
head_by start other rest true f e = let s : start ≡ other = cc in omega (arith, s)
head_by start other rest false f e = omega (arith, f e)

first_late : (holds : Doing → Bool) (start other : ℕ) (ts : List Thread) → first_from start holds ts ≡ Some other → start ≤ other
first_late holds start other [] e = absurd (let k : None ≡ Some other = e in cc)
first_late holds start other (u ∷ us) e = head_by start other (first_from (start + 1) holds us) (holds u.doing) (first_late holds (start + 1) other us) e

earliest_later : (number : ℕ) (rest : Option ℕ) → ((other : ℕ) → rest ≡ Some other → number < other) → earliest number rest ≡ number
earliest_later number None late = refl
earliest_later number (Some other) late =
    let h : number < other = late other refl in
    let e : nat_lt other number ≡ false = grind (arith, nat_tests) in rw e refl

first_by : (start number : ℕ) (old new : Option ℕ) (b : Bool) → start < number → new ≡ Some (earliest number old) → (if b then Some start else new) ≡ Some (earliest number (if b then Some start else old))
first_by start number old new true h e = let l : nat_lt start number ≡ true = grind (arith, nat_tests) in rw l refl
first_by start number old new false h e = e

pub first_set : (holds : Doing → Bool) (number start i : ℕ) (ts : List Thread) (t new : Thread) → number ≡ start + i → slice_get ts i ≡ Some t → holds t.doing ≡ false → holds new.doing ≡ true → first_from start holds (slice_set ts i new) ≡ Some (earliest number (first_from start holds ts))
first_set holds number start i [] t new n e f g = absurd (let k : None ≡ Some t = e in cc)
first_set holds number start zero (u ∷ us) t new n e f g =
    let s : u ≡ t = cc in
    let h : holds u.doing ≡ false = ap (λ (x : Thread). holds x.doing) s ∙ f in
    let m : number ≡ start = omega (arith, n) in
    let late : (other : ℕ) → first_from (start + 1) holds us ≡ Some other → number < other = λ other k. omega (arith, m, first_late holds (start + 1) other us k) in
    rw (g, h, earliest_later number (first_from (start + 1) holds us) late, m) refl
first_set holds number start (suc i) (u ∷ us) t new n e f g =
    first_by start number (first_from (start + 1) holds us) _ (holds u.doing) (omega (arith, n)) (first_set holds number (start + 1) i us t new (omega (arith, n)) e f g)

-- ---- links

pub uses_same : (from : ℕ) (old new : List Thread) (closed : List Bool) → ((link : ℕ) (c : Bool) → from ≤ link → use_by new link c ≡ use_by old link c) → uses_from from new closed ≡ uses_from from old closed
uses_same from old new [] same = refl
uses_same from old new (c ∷ cs) same = rw (same from c (omega arith), uses_same (from + 1) old new cs (λ link d h. same link d (omega (arith, h)))) refl

over_head : (j : ℕ) (change : LinkUse → LinkUse) (head : LinkUse) (found : Option LinkUse) (links : List LinkUse) → head ∷ updated j change found links ≡ updated (suc j) change found (head ∷ links)
over_head j change head (Some x) links = refl
over_head j change head None links = refl

pub uses_at : (link from j : ℕ) (old new : List Thread) (closed : List Bool) (change : LinkUse → LinkUse) → link ≡ from + j
    → ((other : ℕ) (c : Bool) → other ≢ link → use_by new other c ≡ use_by old other c)
    → ((c : Bool) → use_by new link c ≡ change (use_by old link c))
    → uses_from from new closed ≡ updated j change (slice_get (uses_from from old closed) j) (uses_from from old closed)
uses_at link from j old new [] change n same here = refl
uses_at link from zero old new (c ∷ cs) change n same here =
    let e : from ≡ link = omega (arith, n) in
    let h : use_by new from c ≡ change (use_by old from c) = rw e (here c) in
    let t : uses_from (from + 1) new cs ≡ uses_from (from + 1) old cs = uses_same (from + 1) old new cs (λ other d l. same other d (λ k. absurd (omega (arith, k, l, e)))) in
    rw (h, t) refl
uses_at link from (suc j) old new (c ∷ cs) change n same here =
    let h : use_by new from c ≡ use_by old from c = same from c (λ k. absurd (omega (arith, k, n))) in
    let t = uses_at link (from + 1) j old new cs change (omega (arith, n)) same here in
    rw (h, t) (over_head j change (use_by old from c) (slice_get (uses_from (from + 1) old cs) j) (uses_from (from + 1) old cs))

-- ---- a thread that was inside does something else

other_sends : (n : Numbered) (link other : ℕ) → other ≢ link → (link == other) ≡ false
other_sends n link other k = grind (arith, nat_tests)

module _ (i : ℕ) (ts : List Thread) (t new : Thread) (there : slice_get ts i ≡ Some t) (inside : is_outside t.doing ≡ false) where
  senders_stay : (link : ℕ) → sends_on link new.doing ≡ false → first_from 0 (sends_on link) (slice_set ts i new) ≡ first_from 0 (sends_on link) ts
  senders_stay link e = first_same (sends_on link) 0 i ts t new there (e ∙ sym (inside_sends link t.doing inside))

  receivers_stay : (link : ℕ) → receives_on link new.doing ≡ false → first_from 0 (receives_on link) (slice_set ts i new) ≡ first_from 0 (receives_on link) ts
  receivers_stay link e = first_same (receives_on link) 0 i ts t new there (e ∙ sym (inside_receives link t.doing inside))

  use_stays : (link : ℕ) (c : Bool) → sends_on link new.doing ≡ false → receives_on link new.doing ≡ false → use_by (slice_set ts i new) link c ≡ use_by ts link c
  use_stays link c e f = rw (senders_stay link e, receivers_stay link f) refl

  uses_stay : (closed : List Bool) → ((link : ℕ) → sends_on link new.doing ≡ false) → ((link : ℕ) → receives_on link new.doing ≡ false) → uses_from 0 (slice_set ts i new) closed ≡ uses_from 0 ts closed
  uses_stay closed e f = uses_same 0 ts (slice_set ts i new) closed (λ link c h. use_stays link c (e link) (f link))

  pub uses_set : (n : Numbered) (s : ThreadState) (closed : List Bool) → new.doing ≡ doing_named n s → uses_from 0 (slice_set ts i new) closed ≡ linked i s (uses_from 0 ts closed)
  uses_set n state.Ready closed e = uses_stay closed (λ link. rw e refl) (λ link. rw e refl)
  uses_set n (state.Entering object times) closed e = uses_stay closed (λ link. rw e refl) (λ link. rw e refl)
  uses_set n (state.Waiting object times) closed e = uses_stay closed (λ link. rw e refl) (λ link. rw e refl)
  uses_set n (state.Initing mirror) closed e = uses_stay closed (λ link. rw e refl) (λ link. rw e refl)
  uses_set n (state.Joining thread) closed e = uses_stay closed (λ link. rw e refl) (λ link. rw e refl)
  uses_set n state.Asking closed e = uses_stay closed (λ link. rw e refl) (λ link. rw e refl)
  uses_set n state.Ended closed e = uses_stay closed (λ link. rw e refl) (λ link. rw e refl)
  uses_set n (state.Sending link) closed e =
      let mine : sends_on link new.doing ≡ true = rw e (grind (arith, nat_tests)) in
      let sender : first_from 0 (sends_on link) (slice_set ts i new) ≡ Some (earliest i (first_from 0 (sends_on link) ts)) =
      first_set (sends_on link) i 0 i ts t new (omega arith) there (inside_sends link t.doing inside) mine in
      let receiver : first_from 0 (receives_on link) (slice_set ts i new) ≡ first_from 0 (receives_on link) ts = receivers_stay link (rw e refl) in
      uses_at link 0 link ts (slice_set ts i new) closed (sending_use i) (omega arith)
      (λ other c k. use_stays other c (rw e (other_sends n link other k)) (rw e refl)) (λ c. rw (sender, receiver) refl)
  uses_set n (state.Receiving link) closed e =
      let mine : receives_on link new.doing ≡ true = rw e (grind (arith, nat_tests)) in
      let receiver : first_from 0 (receives_on link) (slice_set ts i new) ≡ Some (earliest i (first_from 0 (receives_on link) ts)) =
      first_set (receives_on link) i 0 i ts t new (omega arith) there (inside_receives link t.doing inside) mine in
      let sender : first_from 0 (sends_on link) (slice_set ts i new) ≡ first_from 0 (sends_on link) ts = senders_stay link (rw e refl) in
      uses_at link 0 link ts (slice_set ts i new) closed (receiving_use i) (omega arith)
      (λ other c k. use_stays other c (rw e refl) (rw e (other_sends n link other k))) (λ c. rw (sender, receiver) refl)

-- ---- which are closed stays

closed_set : (links : List LinkUse) (i : ℕ) (old new : LinkUse) → slice_get links i ≡ Some old → new.closed ≡ old.closed → closed_in (slice_set links i new) ≡ closed_in links
closed_set [] i old new e f = refl
closed_set (x ∷ xs) zero old new e f = let s : old ≡ x = cc in ap (λ (b : Bool). b ∷ closed_in xs) (f ∙ ap (λ (y : LinkUse). y.closed) s)
closed_set (x ∷ xs) (suc i) old new e f = ap (λ (bs : List Bool). x.closed ∷ bs) (closed_set xs i old new e f)

closed_updated : (links : List LinkUse) (i : ℕ) (change : LinkUse → LinkUse) → ((x : LinkUse) → (change x).closed ≡ x.closed) → (found : Option LinkUse) → slice_get links i ≡ found → closed_in (updated i change found links) ≡ closed_in links
closed_updated links i change same (Some x) e = closed_set links i x (change x) e (same x)
closed_updated links i change same None e = refl

pub closed_linked : (i : ℕ) (s : ThreadState) (links : List LinkUse) → closed_in (linked i s links) ≡ closed_in links
closed_linked i state.Ready links = refl
closed_linked i (state.Entering object times) links = refl
closed_linked i (state.Waiting object times) links = refl
closed_linked i (state.Initing mirror) links = refl
closed_linked i (state.Joining thread) links = refl
closed_linked i state.Asking links = refl
closed_linked i state.Ended links = refl
closed_linked i (state.Sending link) links = closed_updated links link (sending_use i) (λ x. refl) (slice_get links link) refl
closed_linked i (state.Receiving link) links = closed_updated links link (receiving_use i) (λ x. refl) (slice_get links link) refl
