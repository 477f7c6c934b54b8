-- The rows of one entry, or of one history, and of those that are left.
use Rattle.std.proofs.Common.{◌≡◌, ◌<◌, ℕ, ◌+◌, List, [], ◌∷◌, ◌++◌, map, length, drop, get_or, refl, sym, ap, ◌∙◌, append_assoc, append-nil, ◌≤◌}
use Rattle.std.proofs.lemmas.List.{drop_more, drop_all}
use Rattle.mvm_history.specs.declared.entry.Entry.{Entry}
use Rattle.mvm_history.specs.declared.merging.Row.{Row}
use Rattle.mvm_history.specs.Merged.{items_of, items_from}
use Rattle.mvm_history.specs.Rows.{row, rows_of, rows_from}

-- the next entry's row stands in front of the rows of the entries behind it
pub rows_of_next : (isolate at : ℕ) (es : List Entry) (e : Entry) → at < length es →
    rows_of isolate at (drop at es) ≡ record { stamp = (get_or es at e).stamp; isolate = isolate; place = at } ∷ rows_of isolate (at + 1) (drop (at + 1) es)
unfolding items_of
rows_of_next isolate at es e low = ap (rows_of isolate at) (drop_more es at e low)

pub rows_of_none : (isolate at : ℕ) → rows_of isolate at [] ≡ []
unfolding items_of
rows_of_none isolate at = refl

-- the rows of the next history stand in front of those of the histories behind it
map_append : {A B : Type 0} (f : A → B) (xs ys : List A) → map f (xs ++ ys) ≡ map f xs ++ map f ys
map_append f [] ys = refl
map_append f (x ∷ xs) ys = ap (λ zs. f x ∷ zs) (map_append f xs ys)

pub rows_from_next : (at : ℕ) (hs : List (List Entry)) (h : List Entry) → at < length hs →
    rows_from at (drop at hs) ≡ rows_of at 0 (get_or hs at h) ++ rows_from (at + 1) (drop (at + 1) hs)
unfolding items_from
rows_from_next at hs h low =
    ap (rows_from at) (drop_more hs at h low) ∙ map_append row (items_of at 0 (get_or hs at h)) (items_from (at + 1) (drop (at + 1) hs))

pub rows_from_none : (at : ℕ) → rows_from at [] ≡ []
unfolding items_from
rows_from_none at = refl

-- one turn of the loop over entries
pub entry_added : (isolate at place : ℕ) (es : List Entry) (old new all : List Row) (e : Entry) → at < length es → e ≡ get_or es at e → place ≡ at →
    new ≡ old ++ record { stamp = e.stamp; isolate = isolate; place = place } ∷ [] → old ++ rows_of isolate at (drop at es) ≡ all →
    new ++ rows_of isolate (at + 1) (drop (at + 1) es) ≡ all
entry_added isolate at place es old new all e low is counted added rest =
    let x : Row = record { stamp = e.stamp; isolate = isolate; place = place } in
    let more = rows_of isolate (at + 1) (drop (at + 1) es) in
    let next : rows_of isolate at (drop at es) ≡ x ∷ more =
    rows_of_next isolate at es e low
    ∙ ap (λ (f : Entry). record { stamp = f.stamp; isolate = isolate; place = at } ∷ more) (sym is)
    ∙ ap (λ (k : ℕ). record { stamp = e.stamp; isolate = isolate; place = k } ∷ more) (sym counted) in
    ap (λ rows. rows ++ more) added ∙ append_assoc old (x ∷ []) more ∙ ap (λ rows. old ++ rows) (sym next) ∙ rest

-- and of the one over histories
pub history_added : (at isolate : ℕ) (hs : List (List Entry)) (old new all : List Row) (h : List Entry) → at < length hs → h ≡ get_or hs at h → isolate ≡ at →
    new ≡ old ++ rows_of isolate 0 h → old ++ rows_from at (drop at hs) ≡ all →
    new ++ rows_from (at + 1) (drop (at + 1) hs) ≡ all
history_added at isolate hs old new all h low is counted added rest =
    let more = rows_from (at + 1) (drop (at + 1) hs) in
    let next : rows_from at (drop at hs) ≡ rows_of isolate 0 h ++ more =
    rows_from_next at hs h low
    ∙ ap (λ (g : List Entry). rows_of at 0 g ++ more) (sym is)
    ∙ ap (λ (k : ℕ). rows_of k 0 h ++ more) (sym counted) in
    ap (λ rows. rows ++ more) added ∙ append_assoc old (rows_of isolate 0 h) more ∙ ap (λ rows. old ++ rows) (sym next) ∙ rest

-- nothing is left
pub all_added : (old all : List Row) (left : List Row) → left ≡ [] → old ++ left ≡ all → old ≡ all
all_added old all left none rest = sym (append-nil old) ∙ ap (λ rows. old ++ rows) (sym none) ∙ rest

pub entries_done : (isolate at : ℕ) (es : List Entry) (old all : List Row) → length es ≤ at → old ++ rows_of isolate at (drop at es) ≡ all → old ≡ all
entries_done isolate at es old all past rest =
    all_added old all (rows_of isolate at (drop at es)) (ap (rows_of isolate at) (drop_all at es past) ∙ rows_of_none isolate at) rest

pub histories_done : (at : ℕ) (hs : List (List Entry)) (old all : List Row) → length hs ≤ at → old ++ rows_from at (drop at hs) ≡ all → old ≡ all
histories_done at hs old all past rest =
    all_added old all (rows_from at (drop at hs)) (ap (rows_from at) (drop_all at hs past) ∙ rows_from_none at) rest
