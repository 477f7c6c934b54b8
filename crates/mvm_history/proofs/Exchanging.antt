-- What an Offer, a Receipt and a Took keep of the agreement of both sides of a link.
use Rattle.std.proofs.Common.{◌≡◌, ℕ, suc, ◌+◌, List, [], ◌∷◌, ◌++◌, length, slice_get, Some, None, refl, sym, ap, ◌∙◌, append-nil, append_assoc, length-append, arith}
use mathlib.Core.List.{IsPrefix}
use Rattle.mvm_history.specs.declared.entry.Entry.{Entry}
use Rattle.mvm_history.specs.declared.message.Message.{Message}
use Rattle.mvm_history.specs.declared.event.Event.TheVariants.{Offer, Receipt, Took}
use Rattle.mvm_history.specs.Histories.{Sent, offers, receipts, receipt_stamps, tooks}
use Rattle.mvm_history.specs.Links.{IsExchange}
use Rattle.mvm_history.proofs.Linking.{offers_push, receipts_push, receipt_stamps_push, tooks_push, same}

prefix_more : {A : Type 0} (xs ys : List A) (x : A) → IsPrefix xs ys → IsPrefix xs (ys ++ x ∷ [])
prefix_more xs ys x p = (p.0 ++ x ∷ [], sym (append_assoc xs p.0 (x ∷ [])) ∙ ap (λ zs. zs ++ x ∷ []) p.1)

-- the next of a list, after a beginning of it
prefix_next : {A : Type 0} (xs zs ys : List A) (x : A) → xs ++ zs ≡ ys → slice_get ys (length xs) ≡ Some x → IsPrefix (xs ++ x ∷ []) ys
prefix_next [] [] ys x e at = let h : None ≡ Some x = ap (λ l. slice_get l 0) e ∙ at in absurd cc
prefix_next [] (z ∷ zs) ys x e at = let h : Some z ≡ Some x = ap (λ l. slice_get l 0) e ∙ at in let k : z ≡ x = cc in (zs, ap (λ y. y ∷ zs) (sym k) ∙ e)
prefix_next (w ∷ xs) zs ys x e at =
    let h : slice_get (xs ++ zs) (length xs) ≡ Some x = ap (λ l. slice_get l (suc (length xs))) e ∙ at in
    let r = prefix_next xs zs (xs ++ zs) x refl h in
    (r.0, ap (λ y. w ∷ y) r.1 ∙ e)

-- the next Offer is received
pub exchange_receipt : (k stamp t : ℕ) (x : Sent) (es gs : List Entry) → IsExchange k es gs → slice_get (offers k es) (length (receipts k gs)) ≡ Some x → IsExchange k es (gs ++ record { stamp = stamp; what = Receipt k t x.message x.stamp } ∷ [])
exchange_receipt k stamp t x es gs h at =
    let e : Entry = record { stamp = stamp; what = Receipt k t x.message x.stamp } in
    let a : receipts k (gs ++ e ∷ []) ≡ receipts k gs ++ x ∷ [] = rw (receipts_push k gs e, same k) refl in
    let b : receipt_stamps k (gs ++ e ∷ []) ≡ receipt_stamps k gs ++ stamp ∷ [] = rw (receipt_stamps_push k gs e, same k) refl in
    let n : length (receipts k (gs ++ e ∷ [])) ≡ length (receipts k gs) + 1 = ap length a ∙ length-append (receipts k gs) (x ∷ []) in
    let o = h.one_more in
    record {
      received = rw a (prefix_next (receipts k gs) h.received.0 (offers k es) x h.received.1 at);
      taken = rw b (prefix_more (tooks k es) (receipt_stamps k gs) stamp h.taken);
      one_more = omega arith;
    }

-- the next Receipt is taken
pub exchange_took : (k stamp t received : ℕ) (es gs : List Entry) → IsExchange k es gs → slice_get (receipt_stamps k gs) (length (tooks k es)) ≡ Some received → IsExchange k (es ++ record { stamp = stamp; what = Took k t received } ∷ []) gs
exchange_took k stamp t received es gs h at =
    let e : Entry = record { stamp = stamp; what = Took k t received } in
    let a : offers k (es ++ e ∷ []) ≡ offers k es = offers_push k es e ∙ append-nil (offers k es) in
    let b : tooks k (es ++ e ∷ []) ≡ tooks k es ++ received ∷ [] = rw (tooks_push k es e, same k) refl in
    record {
      received = rw a h.received;
      taken = rw b (prefix_next (tooks k es) h.taken.0 (receipt_stamps k gs) received h.taken.1 at);
      one_more = rw a h.one_more;
    }

-- an Offer, where every one before it was received
pub exchange_offer : (k stamp t : ℕ) (m : Message) (es gs : List Entry) → IsExchange k es gs → length (offers k es) ≡ length (receipts k gs) → IsExchange k (es ++ record { stamp = stamp; what = Offer k t m } ∷ []) gs
exchange_offer k stamp t m es gs h all =
    let e : Entry = record { stamp = stamp; what = Offer k t m } in
    let x : Sent = record { stamp = stamp; message = m } in
    let a : offers k (es ++ e ∷ []) ≡ offers k es ++ x ∷ [] = rw (offers_push k es e, same k) refl in
    let b : tooks k (es ++ e ∷ []) ≡ tooks k es = tooks_push k es e ∙ append-nil (tooks k es) in
    let n : length (offers k (es ++ e ∷ [])) ≡ length (offers k es) + 1 = ap length a ∙ length-append (offers k es) (x ∷ []) in
    record {
      received = rw a (prefix_more (receipts k gs) (offers k es) x h.received);
      taken = rw b h.taken;
      one_more = omega arith;
    }
