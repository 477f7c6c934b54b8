-- The lengths of the arrays of multianewarray, read from the operands.
use Rattle.std.proofs.Common.{◌≡◌, ◌<◌, ◌≤◌, ℕ, zero, suc, ◌+◌, ◌-◌, ℤ, Bool, true, false, List, [], ◌∷◌, ◌++◌, length, drop, get_or, replicate, Option, Some, None, Result, Ok, Err, refl, sym, ap, ◌∙◌, subst, append_assoc, append-nil, length-drop, le-leb, IfOk, OnOk, arith}
use Rattle.std.specs.Prelude.{nat_le, if◌then◌else◌}
use Rattle.std.proofs.lemmas.List.{at_drop_more, drop_all}
use Rattle.mvm_base.specs.Answers.{◌>>=◌, AnswersUnless}
use Rattle.mvm_base.specs.declared.descriptor.FieldShape.{FieldShape}
use Rattle.mvm_base.specs.declared.value.Kind.{Kind}
use Rattle.mvm_base.specs.declared.value.Kind.TheVariants as kind
use Rattle.mvm_base.specs.declared.value.Word.{Word}
use Rattle.mvm_base.specs.declared.value.Word.TheVariants.{Ref}
use Rattle.mvm_frame.specs.Parts.{Operands, Rest, StackParts}
use Rattle.mvm_frame.specs.declared.slot.Slot.{Slot}
use Rattle.mvm_isolate.specs.Numbered.{Numbered, named}
use Rattle.mvm_isolate.specs.Sound.{Grows}
use Rattle.mvm_isolate.specs.declared.stop.Stop.{Stop}
use Rattle.mvm_isolate.specs.declared.stop.Stop.TheVariants.{OutOfMemory}
use Rattle.mvm_current.specs.Arguments.{are_there, arguments, head_word, widths, with_word, words_in}
use Rattle.mvm_current.specs.Frames.{Frame, without}
use Rattle.mvm_current.specs.Keys.{top_named, AreKeys}
use Rattle.mvm_current.specs.Values.{int_of, may_push, width}
use Rattle.mvm_initialise.specs.Arrays.{arrays_made}
use Rattle.mvm_object.specs.Arrays.{arrays_pushed, count_of, counts_of}
use Rattle.mvm_object.specs.Coming.{point_of}
use Rattle.mvm_object.specs.Going.{Context, Point, Went, pushing}
use Rattle.mvm_object.proofs.Points.{point_after}

-- ---- how many there are

abbrev pub Many : {X : Type 0} → ℕ → Result (List X) Stop → Type 0
Many n (Ok xs) = length xs ≡ n
Many n (Err stop) = Unit {0}

pub widths_ints : (n : ℕ) → widths (replicate n kind.Int) ≡ n
widths_ints zero = refl
widths_ints (suc n) = let rest : widths (replicate n kind.Int) ≡ n = widths_ints n in omega (arith, rest)

with_many : (n : ℕ) (word : Option Word) (r : Result (List Word) Stop) → Many n r → Many (suc n) (with_word word r)
with_many n None r m = tt
with_many n (Some word) (Err stop) m = tt
with_many n (Some word) (Ok words) m = ap (λ (k : ℕ). suc k) m

words_many : (ks : List Kind) (slots : List Slot) → Many (length ks) (words_in ks slots)
words_many [] slots = refl
words_many (k ∷ ks) slots = with_many (length ks) (head_word k slots) (words_in ks (drop (width k) slots)) (words_many ks (drop (width k) slots))

if_many : (n : ℕ) (b : Bool) (r : Result (List Word) Stop) (fault : Stop) → Many n r → Many n (if b then r else Err fault)
if_many n true r fault m = m
if_many n false r fault m = tt

arguments_many : (ks : List Kind) (slots : List Slot) → Many (length ks) (arguments ks slots)
unfolding arguments
arguments_many ks slots = if_many (length ks) (are_there ks slots) _ _ (words_many ks _)

after_many : (n count : ℕ) (r : Result (List ℕ) Stop) → Many n r → Many (suc n) (r >>= λ counts. Ok (count ∷ counts))
after_many n count (Ok counts) m = ap (λ (k : ℕ). suc k) m
after_many n count (Err stop) m = tt

count_many : (n : ℕ) (found : Result ℕ Stop) (r : Result (List ℕ) Stop) → Many n r → Many (suc n) (found >>= λ count. r >>= λ counts. Ok (count ∷ counts))
count_many n (Ok count) r m = after_many n count r m
count_many n (Err stop) r m = tt

counts_many : (ws : List Word) → Many (length ws) (counts_of ws)
counts_many [] = refl
counts_many (w ∷ ws) = count_many (length ws) (int_of w >>= count_of) (counts_of ws) (counts_many ws)

pub lengths_many : (ks : List Kind) (slots : List Slot) (words : List Word) (counts : List ℕ) → arguments ks slots ≡ Ok words → counts_of words ≡ Ok counts → length counts ≡ length ks
lengths_many ks slots words counts e f =
    let first : length words ≡ length ks = subst (Many (length ks)) e (arguments_many ks slots) in
    subst (Many (length words)) f (counts_many words) ∙ first

-- ---- one after another

-- lengths, and those that come behind them
abbrev joined : List ℕ → Result (List ℕ) Stop → Result (List ℕ) Stop
joined counts (Ok others) = Ok (counts ++ others)
joined counts (Err stop) = Err stop

joined_none : (r : Result (List ℕ) Stop) → r ≡ joined [] r
joined_none (Ok counts) = refl
joined_none (Err stop) = refl

joined_one : (counts : List ℕ) (count : ℕ) (r : Result (List ℕ) Stop) → joined counts (r >>= λ others. Ok (count ∷ others)) ≡ joined (counts ++ count ∷ []) r
joined_one counts count (Ok others) = ap (λ (x : List ℕ). Ok x) (sym (append_assoc counts (count ∷ []) others))
joined_one counts count (Err stop) = refl

-- so many lengths were read
pub record Reading (words : List Word) (place : ℕ) (counts : List ℕ) : Type 0 where
  pub rest : counts_of words ≡ joined counts (counts_of (drop place words))

pub reading_begins : (words : List Word) → Reading words 0 []
reading_begins words = record { rest = joined_none (counts_of words) }

module _ (words : List Word) (place : ℕ) (counts : List ℕ) (w : Word) (within : place < length words) (at : w ≡ get_or words place w) (k : Reading words place counts) where
  here : drop place words ≡ w ∷ drop (place + 1) words
  here = at_drop_more (λ (x : List Word). x) words place w within ∙ ap (λ (x : Word). x ∷ drop (place + 1) words) (sym at)

  step : counts_of words ≡ joined counts (int_of w >>= count_of >>= λ count. counts_of (drop (place + 1) words) >>= λ others. Ok (count ∷ others))
  step = k.rest ∙ ap (λ (x : List Word). joined counts (counts_of x)) here

  pub no_int : (stop : Stop) → int_of w ≡ Err stop → counts_of words ≡ Err stop
  no_int stop e = step ∙ rw e refl

  pub no_count : (n : ℤ) (stop : Stop) → int_of w ≡ Ok n → count_of n ≡ Err stop → counts_of words ≡ Err stop
  no_count n stop e f = step ∙ rw (e, f) refl

  pub reading_more : (n : ℤ) (count : ℕ) (after : List ℕ) → int_of w ≡ Ok n → count_of n ≡ Ok count → after ≡ counts ++ count ∷ [] → Reading words (place + 1) after
  reading_more n count after e f is =
      let one : joined counts (int_of w >>= count_of >>= λ count. counts_of (drop (place + 1) words) >>= λ others. Ok (count ∷ others)) ≡ joined counts (counts_of (drop (place + 1) words) >>= λ others. Ok (count ∷ others)) = rw (e, f) refl in
      record { rest = step ∙ (one ∙ (joined_one counts count (counts_of (drop (place + 1) words)) ∙ ap (λ (x : List ℕ). joined x (counts_of (drop (place + 1) words))) (sym is))) }

pub reading_ends : (words : List Word) (place : ℕ) (counts : List ℕ) → length words ≤ place → Reading words place counts → counts_of words ≡ Ok counts
reading_ends words place counts h k =
    k.rest ∙ (ap (λ (x : List Word). joined counts (counts_of x)) (drop_all place words h) ∙ ap (λ (x : List ℕ). Ok x) (append-nil counts))

-- ---- they are taken off

pub top_without : (n : Numbered) (stack popped : StackParts) (count : ℕ) → popped.operands ≡ record stack.operands { slots = drop count stack.operands.slots } → popped.rest ≡ stack.rest → top_named n popped ≡ without count (top_named n stack)
top_without n stack popped count e f =
    ap (λ (x : Operands). top_named n (record { operands = x; rest = popped.rest })) e
    ∙ ap (λ (x : Rest). top_named n (record { operands = record stack.operands { slots = drop count stack.operands.slots }; rest = x })) f

-- a reference fits in their place
pub has_room : (n : Numbered) (stack popped : StackParts) (count : ℕ) (stop : Stop) → popped.operands ≡ record stack.operands { slots = drop count stack.operands.slots } → 0 < count → count ≤ length stack.operands.slots
    → length stack.operands.slots ≤ stack.operands.depth → may_push kind.Ref (top_named n popped) ≡ Err stop → ⊥
unfolding may_push
has_room n stack popped count stop e some there within h =
    let slots : length popped.operands.slots ≡ length stack.operands.slots - count = ap (λ (o : Operands). length o.slots) e ∙ length-drop count stack.operands.slots in
    let depth : popped.operands.depth ≡ stack.operands.depth = ap (λ (o : Operands). o.depth) e in
    let fits : nat_le (length popped.operands.slots + 1) popped.operands.depth ≡ true = le-leb _ _ (omega (arith, slots, depth, some, there, within)) in
    let k = rw fits at h in absurd cc

pub pushed_is : (c : Context) (shape : FieldShape) (counts : List ℕ) (next : ℕ) (old new : Numbered) (stack popped : StackParts) (array : ℕ) (went : Went) → arrays_made shape counts (named old) ≡ Ok (array, named new)
    → popped.operands ≡ record stack.operands { slots = drop (length counts) stack.operands.slots } → popped.rest ≡ stack.rest → Grows old new → AreKeys old stack → pushing c next (Ref array) (point_of new popped) ≡ Ok went
    → arrays_pushed c shape counts next (point_of old stack) ≡ Ok went
unfolding arrays_pushed
pushed_is c shape counts next old new stack popped array went made e f g keys h =
    let at : point_of new popped ≡ record (point_of old stack) { isolate = named new; frame = without (length counts) (top_named old stack) } =
    point_after old new stack popped g keys f ∙ ap (λ (frame : Frame). record (point_of old stack) { isolate = named new; frame = frame }) (top_without old stack popped (length counts) e f) in
    rw made (subst (λ (p : Point). pushing c next (Ref array) p ≡ Ok went) at h)

-- ---- what holds whatever is answered

pub on_ok : {A : Type 0} (r : Result A Stop) (B : Type 0) → B → OnOk r B
on_ok (Ok x) B b = b
on_ok (Err stop) B b = tt

pub if_many_lengths : (r : Result (List ℕ) Stop) (ks : List Kind) (slots : List Slot) (words : List Word) → AnswersUnless OutOfMemory r (counts_of words) → arguments ks slots ≡ Ok words → IfOk r (λ counts. length counts ≡ length ks)
if_many_lengths (Ok counts) ks slots words a e = lengths_many ks slots words counts e a
if_many_lengths (Err stop) ks slots words a e = tt
