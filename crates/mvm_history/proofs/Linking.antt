-- One more entry, and what it says of a link.
use Rattle.std.proofs.Common.{◌≡◌, ℕ, List, [], ◌∷◌, ◌++◌, Option, Some, None, refl, ap, ◌∙◌}
use Rattle.std.proofs.Common.{◌+◌, eq-eqb, length, length-append, sym, Bool, true, false}
use Rattle.std.specs.Prelude.{option_to_list, ◌==◌, if◌then◌else◌}
use Rattle.mvm_history.specs.declared.event.Event.{Event}
use Rattle.mvm_history.specs.declared.event.Event.TheVariants.{Started, Turn, Offer, Receipt, Took, Closed, Ask, Answer, Halted, Stalled}
use Rattle.std.specs.List.{filter_map}
use Rattle.std.proofs.lemmas.List.Elements.{filter_map-append}
use Rattle.mvm_history.specs.declared.entry.Entry.{Entry}
use Rattle.mvm_history.specs.Histories.{Sent, offer_in, receipt_in, receipt_stamp_in, took_in, offers, receipts, receipt_stamps, tooks}

one_left : {A B : Type 0} (f : A → Option B) (x : A) (o : Option B) → f x ≡ o → filter_map f (x ∷ []) ≡ option_to_list o
one_left f x None e = rw e refl
one_left f x (Some y) e = rw e refl

pub filter_map_push : {A B : Type 0} (f : A → Option B) (xs : List A) (x : A) → filter_map f (xs ++ x ∷ []) ≡ filter_map f xs ++ option_to_list (f x)
filter_map_push f xs x = filter_map-append f xs (x ∷ []) ∙ ap (λ ys. filter_map f xs ++ ys) (one_left f x (f x) refl)

pub offers_push : (k : ℕ) (es : List Entry) (e : Entry) → offers k (es ++ e ∷ []) ≡ offers k es ++ option_to_list (offer_in k e.stamp e.what)
unfolding offers
offers_push k es e = filter_map_push (λ (x : Entry). offer_in k x.stamp x.what) es e

pub receipts_push : (k : ℕ) (es : List Entry) (e : Entry) → receipts k (es ++ e ∷ []) ≡ receipts k es ++ option_to_list (receipt_in k e.what)
unfolding receipts
receipts_push k es e = filter_map_push (λ (x : Entry). receipt_in k x.what) es e

pub receipt_stamps_push : (k : ℕ) (es : List Entry) (e : Entry) → receipt_stamps k (es ++ e ∷ []) ≡ receipt_stamps k es ++ option_to_list (receipt_stamp_in k e.stamp e.what)
unfolding receipt_stamps
receipt_stamps_push k es e = filter_map_push (λ (x : Entry). receipt_stamp_in k x.stamp x.what) es e

pub tooks_push : (k : ℕ) (es : List Entry) (e : Entry) → tooks k (es ++ e ∷ []) ≡ tooks k es ++ option_to_list (took_in k e.what)
unfolding tooks
tooks_push k es e = filter_map_push (λ (x : Entry). took_in k x.what) es e

-- ---- each Receipt has its stamp

split : {A B : Type 0} (f : A → Option B) (x : A) (xs : List A) (o : Option B) → f x ≡ o → filter_map f (x ∷ xs) ≡ option_to_list o ++ filter_map f xs
split f x xs None e = rw e refl
split f x xs (Some y) e = rw e refl

chosen : {A B : Type 0} (b : Bool) (x : A) (y : B) → length (option_to_list (if b then Some x else None)) ≡ length (option_to_list (if b then Some y else None))
chosen true x y = refl
chosen false x y = refl

counts : (k stamp : ℕ) (e : Event) → length (option_to_list (receipt_stamp_in k stamp e)) ≡ length (option_to_list (receipt_in k e))
counts k stamp (Receipt n t m sent) = chosen (n == k) stamp _
counts k stamp (Started by seen) = refl
counts k stamp (Turn t n) = refl
counts k stamp (Offer n t m) = refl
counts k stamp (Took n t received) = refl
counts k stamp (Closed n seen) = refl
counts k stamp (Ask t a) = refl
counts k stamp (Answer t value seen) = refl
counts k stamp (Halted by status) = refl
counts k stamp (Stalled seen) = refl

pub receipt_lengths : (k : ℕ) (es : List Entry) → length (receipt_stamps k es) ≡ length (receipts k es)
unfolding receipts receipt_stamps
receipt_lengths k [] = refl
receipt_lengths k (e ∷ es) =
    let f : Entry → Option ℕ = λ x. receipt_stamp_in k x.stamp x.what in
    let g : Entry → Option Sent = λ x. receipt_in k x.what in
    let a : length (filter_map f (e ∷ es)) ≡ length (option_to_list (f e)) + length (filter_map f es) = ap length (split f e es _ refl) ∙ length-append (option_to_list (f e)) (filter_map f es) in
    let b : length (filter_map g (e ∷ es)) ≡ length (option_to_list (g e)) + length (filter_map g es) = ap length (split g e es _ refl) ∙ length-append (option_to_list (g e)) (filter_map g es) in
    let c : length (option_to_list (f e)) ≡ length (option_to_list (g e)) = counts k e.stamp e.what in
    let d : length (filter_map f es) ≡ length (filter_map g es) = receipt_lengths k es in
    a ∙ ((rw (c, d) refl) ∙ sym b)

pub same : (k : ℕ) → (k == k) ≡ true
same k = eq-eqb k k refl
