-- The first of many faults.
use Rattle.std.proofs.Common.{◌≡◌, ℕ, List, [], ◌∷◌, ◌++◌, true, false, ◌+◌, Option, Some, None, Result, Ok, Err, refl, ap, ◌∙◌, sym}
use Rattle.std.specs.Prelude.{map, is_some, if◌then◌else◌}
use Rattle.mvm_layout.specs.declared.parts.Parts.{Parts}
use Rattle.mvm_statement.specs.declared.fault.AsmKind.{AsmKind}
use Rattle.mvm_statement.specs.declared.fault.AsmKind.TheVariants as kinds
use Rattle.mvm_statement.specs.declared.statement.Statement.{Statement}
use Rattle.mvm_listing.specs.declared.phase.Phase.{Phase}
use Rattle.mvm_listing.specs.Order.{is_whole}
use Rattle.mvm_listing.specs.Blocks.{Block, unfit}
use Rattle.mvm_listing.specs.Assembly.{State, Fault, Ran, run, turn_of, phase_behind, is_before, earlier, earliest, first_fault, verdict, judged}
use Rattle.mvm_asm.specs.Turning.{IsBehind}
use Rattle.mvm_asm.specs.Going.{gone_on}

pub earliest_append : (a : Option Fault) (xs ys : List Fault) → earliest a (xs ++ ys) ≡ earliest (earliest a xs) ys
earliest_append a [] ys = refl
earliest_append a (x ∷ xs) ys = earliest_append (earlier a x) xs ys

-- where there is a fault, nothing hangs on the parts
pub some_verdict : (a : Fault) (bs : List Fault) (p q : Parts) → verdict (earliest (Some a) bs) p ≡ verdict (earliest (Some a) bs) q
some_verdict a [] p q = refl
some_verdict a (b ∷ bs) p q =
    elim (is_before a b) as (λ t. verdict (earliest (if t then Some a else Some b) bs) p ≡ verdict (earliest (if t then Some a else Some b) bs) q) [
      | true ↦ some_verdict a bs p q
      | false ↦ some_verdict b bs p q
    ]

abbrev early : ℕ → Phase → List Fault
early count phase = if is_whole phase then [] else (count, kinds.Order) ∷ []

-- the faults that are told where all lines have been gone over
abbrev later : ℕ → Phase → Block → List ℕ → List Fault
later count phase block lines = map (λ line. (line, kinds.Range)) (lines ++ unfit block) ++ early count phase

pub same_judged : (count : ℕ) (a : Fault) (s t : State) → t.phase ≡ s.phase → t.block ≡ s.block → t.unfit ≡ s.unfit
    → judged count (record { state = t; fault = Some a }) ≡ judged count (record { state = s; fault = Some a })
unfolding first_fault
same_judged count a s t phase block lines =
    some_verdict a (later count t.phase t.block t.unfit) t.parts s.parts
    ∙ (ap (λ x. verdict (earliest (Some a) (later count x t.block t.unfit)) s.parts) phase
    ∙ (ap (λ y. verdict (earliest (Some a) (later count s.phase y t.unfit)) s.parts) block
    ∙ ap (λ z. verdict (earliest (Some a) (later count s.phase s.block z)) s.parts) lines))

-- a line with a fault is the last that does anything
pub stopped : (total n : ℕ) (said : Result (Option Statement) AsmKind) (more : List (Result (Option Statement) AsmKind)) (s t : State) (kind : AsmKind)
    → turn_of n said s ≡ Err kind → IsBehind said s t → judged total (record { state = t; fault = Some (n, kind) }) ≡ judged total (run n (said ∷ more) s)
stopped total n said more s t kind e b =
    let ran : run n (said ∷ more) s ≡ record { state = record s { phase = phase_behind said s.phase }; fault = Some (n, kind) } = rw (e, run) refl in
    same_judged total (n, kind) (record s { phase = phase_behind said s.phase }) t b.0 b.1 b.2 ∙ ap (judged total) (sym ran)

pub went_on : (n : ℕ) (said : Result (Option Statement) AsmKind) (more : List (Result (Option Statement) AsmKind)) (s t : State)
    → turn_of n said s ≡ Ok t → run n (said ∷ more) s ≡ run (n + 1) more t
went_on n said more s t e = rw (e, run) refl

pub stopped_here : (total count n : ℕ) (fault : Option Fault) (said : Result (Option Statement) AsmKind) (more : List (Result (Option Statement) AsmKind)) (s t : State) (kind : AsmKind)
    → is_some fault ≡ false → n ≡ count + 1 → turn_of n said s ≡ Err kind → IsBehind said s t
    → judged total (record { state = t; fault = Some (n, kind) }) ≡ judged total (gone_on fault count (said ∷ more) s)
stopped_here total count n (Some f) said more s t kind none is e b = cc
stopped_here total count n None said more s t kind none is e b =
    stopped total n said more s t kind e b ∙ ap (λ x. judged total (run x (said ∷ more) s)) is

-- where the lines end there is nothing left
pub gone_over : (fault : Option Fault) (count : ℕ) (s : State) → gone_on fault count [] s ≡ record { state = s; fault = fault }
gone_over None count s = refl
gone_over (Some f) count s = refl

-- ---- the first fault, put together

abbrev range_at : ℕ → Fault
range_at line = (line, kinds.Range)

pub first_of : (a : Option Fault) (lines left : List ℕ) (ends : List Fault)
    → earliest a (map range_at (lines ++ left) ++ ends) ≡ earliest (earliest (earliest a (map range_at lines)) (map range_at left)) ends
first_of a [] [] ends = refl
first_of a [] (o ∷ os) ends = first_of (earlier a (range_at o)) [] os ends
first_of a (l ∷ ls) os ends = first_of (earlier a (range_at l)) ls os ends

early_whole : (count : ℕ) (phase : Phase) → is_whole phase ≡ true → early count phase ≡ []
early_whole count phase e = rw e refl

early_open : (count : ℕ) (phase : Phase) → is_whole phase ≡ false → early count phase ≡ (count, kinds.Order) ∷ []
early_open count phase e = rw e refl

module _ (count : ℕ) (ran : Ran) (mid last : Option Fault) (lines left : List ℕ)
    (is_lines : lines ≡ ran.state.unfit) (is_open : left ≡ unfit ran.state.block)
    (is_mid : mid ≡ earliest ran.fault (map range_at lines)) (is_last : last ≡ earliest mid (map range_at left)) where
  all_of : (ends : List Fault) → earliest last ends ≡ earliest ran.fault (map range_at (ran.state.unfit ++ unfit ran.state.block) ++ ends)
  all_of ends = rw (is_last, is_mid, is_lines, is_open) (sym (first_of ran.fault ran.state.unfit (unfit ran.state.block) ends))

  pub first_whole : is_whole ran.state.phase ≡ true → last ≡ first_fault count ran
  unfolding first_fault
  first_whole e = ap (earliest last) (sym (early_whole count ran.state.phase e)) ∙ all_of (early count ran.state.phase)

  pub first_open : is_whole ran.state.phase ≡ false → earlier last (count, kinds.Order) ≡ first_fault count ran
  unfolding first_fault
  first_open e = ap (earliest last) (sym (early_open count ran.state.phase e)) ∙ all_of (early count ran.state.phase)
