-- No fault is found exactly where the code is sound.
use Rattle.std.proofs.Common.{◌≡◌, ◌<◌, ◌≤◌, ◌⊎◌, inl, inr, ⊎_elim, ℕ, ℤ, pos, negsuc, Bool, true, false, cond, List, [], ◌∷◌, length, Option, Some, None, Result, Ok, Err, refl, arith}
use Rattle.std.specs.Prelude.{OnOk, max, nat_le, not, ◌==◌, ◌||◌, IfSome}
use Rattle.std.specs.List.{All, list_all}
use Rattle.std.proofs.lemmas.List.Elements.{All-nil, All-cons, All-head, All-tail}
use Rattle.std.proofs.lemmas.Bool.{ltb-true, lt-ltb, leb-true, le-leb, eqb-true, eq-eqb, ne_eqb, and_parts, and_from, or_cases, or_left, or_right, cases_lt, not_from_false}
use Rattle.mvm_insn.specs.Insns.{insn}
use Rattle.mvm_insn.proofs.Inside.{insn-inside}
use Rattle.mvm_insn.specs.declared.fault.InsnFault.{InsnFault}
use Rattle.mvm_insn.specs.declared.insn.At.{At}
use Rattle.mvm_insn.specs.declared.insn.Insn.{Insn}
use Rattle.mvm_insn.specs.declared.insn.Insn.TheVariants.{Plain, Number, Pool, Local, Inc, Jump, Choice, Interface, NewArray, Multi}
use Rattle.mvm_insn.specs.declared.switch_rows.SwitchRow.{SwitchRow}
use Rattle.mvm_layout.specs.declared.parts.Item.{Item}
use Rattle.mvm_layout.specs.declared.parts.Row.{Row}
use Rattle.mvm_layout.specs.declared.parts.Code.{Code}
use Rattle.mvm_layout.specs.declared.parts.Member.{Member}
use Rattle.mvm_layout.specs.declared.parts.Parts.{Parts}
use Rattle.mvm_layout.specs.Pool.{entry, is_class}
use Rattle.mvm_base.specs.Answers.{AnswersUnless}
use Rattle.mvm_base.specs.Rules.{expect, each, each_from}
use Rattle.mvm_check.specs.Starts.{IsStart, first, next, starts_of, is_start, begins}
use Rattle.mvm_check.specs.Operands.{has_operands, parameter_slots}
use Rattle.mvm_check.specs.Locals.{locals_of, parameter_locals}
use Rattle.mvm_check.specs.Instructions.{stood, stands, targets_of_rows, has_targets, is_last, locals_at, has_locals, stays_in_code, kept, kept_if_stood, keeps}
use Rattle.mvm_check.specs.Check.{covers, is_row, row_rule, stands_rule, keeps_rule, code_rule, code_rule_if, method_rule, check_of}
use Rattle.mvm_check.specs.Sound.{StartsAt, LandsOnStarts, SoundInsn, SoundAt, SoundRow, SoundCode, SoundMethod, IsSound}
use Rattle.mvm_check.specs.declared.fault.CheckFault.{CheckFault}
use Rattle.mvm_check.specs.declared.fault.CheckFault.TheVariants.{OutOfMemory}
use Rattle.mvm_check.specs.declared.fault.CheckKind.TheVariants.{BadTarget, BadIndex, BadLocal, OffEnd, BadHandler}
use Rattle.mvm_check.proofs.Rules.{holds_true, holds_again, both, both_again, told_ok, told_again, each_place, each_place_again, each_numbered, each_numbered_again}
use Rattle.mvm_check.proofs.StartList.{in_code, listed, all_listed}

-- ---- targets

starts_at : (code : List ℕ) (target : ℤ) → begins (starts_of code) target ≡ true → StartsAt code target
starts_at code (pos place) h = listed code place h
starts_at code (negsuc n) h = absurd cc

begins_again : (code : List ℕ) (target : ℤ) → StartsAt code target → begins (starts_of code) target ≡ true
begins_again code (pos place) h = all_listed h
begins_again code (negsuc n) h = absurd h

rows_start : (code : List ℕ) (rows : List SwitchRow) → list_all (begins (starts_of code)) (targets_of_rows rows) ≡ true → All (λ (row : SwitchRow). StartsAt code row.target) rows
rows_start code [] h = All-nil (λ (row : SwitchRow). StartsAt code row.target)
rows_start code (row ∷ rows) h =
    let parts = and_parts (begins (starts_of code) row.target) (list_all (begins (starts_of code)) (targets_of_rows rows)) h in
    All-cons (λ (row : SwitchRow). StartsAt code row.target) row rows (starts_at code row.target parts.0) (rows_start code rows parts.1)

rows_again : (code : List ℕ) (rows : List SwitchRow) → All (λ (row : SwitchRow). StartsAt code row.target) rows → list_all (begins (starts_of code)) (targets_of_rows rows) ≡ true
rows_again code [] h = refl
rows_again code (row ∷ rows) h =
    and_from _ _
    (begins_again code row.target (All-head (λ (row : SwitchRow). StartsAt code row.target) row rows h))
    (rows_again code rows (All-tail (λ (row : SwitchRow). StartsAt code row.target) row rows h))

targets_start : (code : List ℕ) (x : Insn) → has_targets (starts_of code) x ≡ true → LandsOnStarts code x
targets_start code (Jump op target) h = starts_at code target (and_parts (begins (starts_of code) target) true h).0
targets_start code (Choice op choice) h =
    let parts = and_parts (begins (starts_of code) choice.otherwise) (list_all (begins (starts_of code)) (targets_of_rows choice.rows)) h in
    (starts_at code choice.otherwise parts.0, rows_start code choice.rows parts.1)
targets_start code (Plain op) h = tt
targets_start code (Number op value) h = tt
targets_start code (Pool op index) h = tt
targets_start code (Local op local wide) h = tt
targets_start code (Inc local by wide) h = tt
targets_start code (Interface index count last) h = tt
targets_start code (NewArray kind) h = tt
targets_start code (Multi index dims) h = tt

targets_again : (code : List ℕ) (x : Insn) → LandsOnStarts code x → has_targets (starts_of code) x ≡ true
targets_again code (Jump op target) h = and_from _ _ (begins_again code target h) refl
targets_again code (Choice op choice) h = and_from _ _ (begins_again code choice.otherwise h.0) (rows_again code choice.rows h.1)
targets_again code (Plain op) h = refl
targets_again code (Number op value) h = refl
targets_again code (Pool op index) h = refl
targets_again code (Local op local wide) h = refl
targets_again code (Inc local by wide) h = refl
targets_again code (Interface index count last) h = refl
targets_again code (NewArray kind) h = refl
targets_again code (Multi index dims) h = refl

-- ---- local variables

locals_fit : (parameters pc most : ℕ) (x : Insn) → nat_le (locals_at parameters pc x) most ≡ true → locals_of x ≤ most
locals_fit parameters pc most x h = by (pc == 0) h
  where
    by : (b : Bool) → nat_le (cond b (max parameters (locals_of x)) (locals_of x)) most ≡ true → locals_of x ≤ most
    by true k = let le = leb-true (max parameters (locals_of x)) most k in omega (arith, le)
    by false k = leb-true (locals_of x) most k

parameters_fit : (parameters most : ℕ) (x : Insn) → nat_le (locals_at parameters 0 x) most ≡ true → parameters ≤ most
parameters_fit parameters most x h = let le = leb-true (max parameters (locals_of x)) most h in omega (arith, le)

locals_again : (parameters pc most : ℕ) (x : Insn) → locals_of x ≤ most → parameters ≤ most → nat_le (locals_at parameters pc x) most ≡ true
locals_again parameters pc most x h p = by (pc == 0)
  where
    by : (b : Bool) → nat_le (cond b (max parameters (locals_of x)) (locals_of x)) most ≡ true
    by true = le-leb (max parameters (locals_of x)) most (omega (arith, h, p))
    by false = le-leb (locals_of x) most h

-- ---- one instruction

module _ (pool : List Item) (parameters : ℕ) (code : Code) where
  leads : (pc : ℕ) (x : At) → IsStart code.bytes pc → insn code.bytes pc ≡ Ok x → stays_in_code code x ≡ true → IsStart code.bytes x.next ⊎ (is_last x.insn ≡ true)
  leads pc x s e h = by (cases_lt x.next (length code.bytes))
    where
      by : (x.next < length code.bytes) ⊎ (length code.bytes ≤ x.next) → IsStart code.bytes x.next ⊎ (is_last x.insn ≡ true)
      by (inl l) = inl (next pc x s e l)
      by (inr g) =
          let i = insn-inside code.bytes pc x e in
          let same : (x.next == length code.bytes) ≡ true = eq-eqb x.next (length code.bytes) (omega (arith, g, i.1)) in
          let k : (not true || is_last x.insn) ≡ true = rw same at h in
          inr k

  leads_again : (x : At) → IsStart code.bytes x.next ⊎ (is_last x.insn ≡ true) → stays_in_code code x ≡ true
  leads_again x (inl s) =
      let l = in_code s in
      or_left (not (x.next == length code.bytes)) (is_last x.insn) (not_from_false (x.next == length code.bytes) (ne_eqb x.next (length code.bytes) (λ e. absurd (omega (arith, l, e)))))
  leads_again x (inr last) = or_right (not (x.next == length code.bytes)) (is_last x.insn) last

  kept_sound : (pc : ℕ) (x : At) → IsStart code.bytes pc → insn code.bytes pc ≡ Ok x → kept pool parameters code pc x ≡ Ok tt → SoundInsn pool code x
  unfolding kept
  kept_sound pc x s e h =
      let last = both _ (expect (stays_in_code code x) OffEnd) h in
      let locals = both _ (expect (has_locals parameters code pc x.insn) BadLocal) last.0 in
      let operands = both (expect (has_targets (starts_of code.bytes) x.insn) BadTarget) (expect (has_operands pool x.insn) BadIndex) locals.0 in
      record {
        targets = targets_start code.bytes x.insn (holds_true _ BadTarget operands.0);
        operands = holds_true _ BadIndex operands.1;
        locals = locals_fit parameters pc code.max_locals x.insn (holds_true _ BadLocal locals.1);
        behind = leads pc x s e (holds_true _ OffEnd last.1);
      }

  kept_parameters : (x : At) → kept pool parameters code 0 x ≡ Ok tt → parameters ≤ code.max_locals
  unfolding kept
  kept_parameters x h =
      let last = both _ (expect (stays_in_code code x) OffEnd) h in
      let locals = both _ (expect (has_locals parameters code 0 x.insn) BadLocal) last.0 in
      parameters_fit parameters code.max_locals x.insn (holds_true _ BadLocal locals.1)

  kept_again : (pc : ℕ) (x : At) → parameters ≤ code.max_locals → SoundInsn pool code x → kept pool parameters code pc x ≡ Ok tt
  unfolding kept
  kept_again pc x p sound =
      both_again _ _ (both_again _ _ (both_again _ _
      (holds_again _ BadTarget (targets_again code.bytes x.insn sound.targets))
      (holds_again _ BadIndex sound.operands))
      (holds_again _ BadLocal (locals_again parameters pc code.max_locals x.insn sound.locals p)))
      (holds_again _ OffEnd (leads_again x sound.behind))

  sound_at : (pc : ℕ) → IsStart code.bytes pc → stands code.bytes pc ≡ Ok tt → keeps pool parameters code pc ≡ Ok tt → SoundAt pool code pc
  unfolding stands keeps
  sound_at pc s h k = by (insn code.bytes pc) refl h k
    where
      by : (r : Result At InsnFault) → insn code.bytes pc ≡ r → stood r ≡ Ok tt → kept_if_stood pool parameters code pc r ≡ Ok tt → SoundAt pool code pc
      by (Ok x) e h k = (x, e, kept_sound pc x s e k)
      by (Err fault) e h k = absurd cc

  stands_again : (pc : ℕ) → SoundAt pool code pc → stands code.bytes pc ≡ Ok tt
  unfolding stands
  stands_again pc (x, e, sound) = rw e refl

  keeps_again : (pc : ℕ) → parameters ≤ code.max_locals → SoundAt pool code pc → keeps pool parameters code pc ≡ Ok tt
  unfolding keeps
  keeps_again pc p (x, e, sound) = rw e (kept_again pc x p sound)

  fit_at : keeps pool parameters code 0 ≡ Ok tt → SoundAt pool code 0 → parameters ≤ code.max_locals
  unfolding keeps
  fit_at h (x, e, sound) = kept_parameters x (rw e at h)

-- ---- a row of the exception table

row_sound : (pool : List Item) (code : Code) (row : Row) → is_row pool code row ≡ true → SoundRow pool code row
unfolding is_row covers
row_sound pool code row h =
    let catch = and_parts _ _ h in
    let handler = and_parts _ _ catch.0 in
    let stack = and_parts _ _ handler.0 in
    let end = and_parts _ _ stack.1 in
    let start = and_parts _ _ end.0 in
    record {
      covers = ltb-true row.start row.end start.0;
      start = listed code.bytes row.start start.1;
      end = ⊎_elim (λ e. inr (eqb-true row.end (length code.bytes) e)) (λ s. inl (listed code.bytes row.end s)) (or_cases (row.end == length code.bytes) _ end.1);
      handler = listed code.bytes row.handler handler.1;
      catch = ⊎_elim (λ e. inl (eqb-true row.catch_class 0 e)) (λ c. inr c) (or_cases (row.catch_class == 0) _ catch.1);
      stack = ltb-true 0 code.max_stack stack.0;
    }

row_again : (pool : List Item) (code : Code) (row : Row) → SoundRow pool code row → is_row pool code row ≡ true
unfolding is_row covers
row_again pool code row sound =
    and_from _ _ (and_from _ _ (and_from _ _ (lt-ltb 0 code.max_stack sound.stack)
    (and_from _ _ (and_from _ _ (lt-ltb row.start row.end sound.covers) (all_listed sound.start)) (ends sound.end)))
    (all_listed sound.handler))
    (catches sound.catch)
  where
    ends : IsStart code.bytes row.end ⊎ (row.end ≡ length code.bytes) → (row.end == length code.bytes || is_start (starts_of code.bytes) row.end) ≡ true
    ends (inl s) = or_right (row.end == length code.bytes) _ (all_listed s)
    ends (inr e) = or_left (row.end == length code.bytes) _ (eq-eqb row.end (length code.bytes) e)

    catches : (row.catch_class ≡ 0) ⊎ (is_class (entry pool row.catch_class) ≡ true) → (row.catch_class == 0 || is_class (entry pool row.catch_class)) ≡ true
    catches (inl e) = or_left (row.catch_class == 0) _ (eq-eqb row.catch_class 0 e)
    catches (inr c) = or_right (row.catch_class == 0) _ c

-- ---- the code of a method

module _ (pool : List Item) (method parameters : ℕ) (code : Code) where
  row_rule_sound : (n : ℕ) (row : Row) → row_rule pool method code n row ≡ Ok tt → SoundRow pool code row
  unfolding row_rule
  row_rule_sound n row h = row_sound pool code row (holds_true (is_row pool code row) BadHandler (told_ok method n _ h))

  row_rule_again : (n : ℕ) (row : Row) → SoundRow pool code row → row_rule pool method code n row ≡ Ok tt
  unfolding row_rule
  row_rule_again n row sound = told_again method n _ (holds_again _ BadHandler (row_again pool code row sound))

  stood_at : (pc : ℕ) → stands_rule method code.bytes pc ≡ Ok tt → stands code.bytes pc ≡ Ok tt
  unfolding stands_rule
  stood_at pc h = told_ok method pc _ h

  stood_again : (pc : ℕ) → stands code.bytes pc ≡ Ok tt → stands_rule method code.bytes pc ≡ Ok tt
  unfolding stands_rule
  stood_again pc h = told_again method pc _ h

  kept_at : (pc : ℕ) → keeps_rule pool method parameters code pc ≡ Ok tt → keeps pool parameters code pc ≡ Ok tt
  unfolding keeps_rule
  kept_at pc h = told_ok method pc _ h

  keep_again : (pc : ℕ) → keeps pool parameters code pc ≡ Ok tt → keeps_rule pool method parameters code pc ≡ Ok tt
  unfolding keeps_rule
  keep_again pc h = told_again method pc _ h

  code_sound : code_rule pool method parameters code ≡ Ok tt → SoundCode pool parameters code
  unfolding code_rule
  code_sound h =
      let rows = both _ (each_from 0 (row_rule pool method code) code.rows) h in
      let keep = both (each (stands_rule method code.bytes) (starts_of code.bytes)) (each (keeps_rule pool method parameters code) (starts_of code.bytes)) rows.0 in
      let stand : (pc : ℕ) → IsStart code.bytes pc → stands code.bytes pc ≡ Ok tt = λ pc s. stood_at pc (each_place (stands_rule method code.bytes) (starts_of code.bytes) pc keep.0 (all_listed s)) in
      let kept : (pc : ℕ) → IsStart code.bytes pc → keeps pool parameters code pc ≡ Ok tt = λ pc s. kept_at pc (each_place (keeps_rule pool method parameters code) (starts_of code.bytes) pc keep.1 (all_listed s)) in
      let sound : (pc : ℕ) → IsStart code.bytes pc → SoundAt pool code pc = λ pc s. sound_at pool parameters code pc s (stand pc s) (kept pc s) in
      record {
        instructions = sound;
        parameters_fit = λ some. fit_at pool parameters code (kept 0 (first some)) (sound 0 (first some));
        rows = each_numbered (SoundRow pool code) (row_rule pool method code) row_rule_sound 0 code.rows rows.1;
      }

  code_again : SoundCode pool parameters code → code_rule pool method parameters code ≡ Ok tt
  unfolding code_rule
  code_again sound =
      both_again _ _ (both_again _ _
      (each_place_again (stands_rule method code.bytes) (starts_of code.bytes) stand)
      (each_place_again (keeps_rule pool method parameters code) (starts_of code.bytes) keep))
      (each_numbered_again (SoundRow pool code) (row_rule pool method code) row_rule_again 0 code.rows sound.rows)
    where
      stand : (pc : ℕ) → is_start (starts_of code.bytes) pc ≡ true → stands_rule method code.bytes pc ≡ Ok tt
      stand pc h = stood_again pc (stands_again pool parameters code pc (sound.instructions pc (listed code.bytes pc h)))

      keep : (pc : ℕ) → is_start (starts_of code.bytes) pc ≡ true → keeps_rule pool method parameters code pc ≡ Ok tt
      keep pc h =
          let s = listed code.bytes pc h in
          let inside_it = in_code s in
          keep_again pc (keeps_again pool parameters code pc (sound.parameters_fit (omega (arith, inside_it))) (sound.instructions pc s))

-- ---- the whole

method_sound : (pool : List Item) (n : ℕ) (method : Member) → method_rule pool n method ≡ Ok tt → SoundMethod pool method
unfolding method_rule
method_sound pool n method h = by method.code h
  where
    by : (code : Option Code) → code_rule_if pool n method code ≡ Ok tt → IfSome code (SoundCode pool (parameter_locals method.flags (parameter_slots pool method.desc)))
    by None h = tt
    by (Some code) h = code_sound pool n _ code h

method_again : (pool : List Item) (n : ℕ) (method : Member) → SoundMethod pool method → method_rule pool n method ≡ Ok tt
unfolding method_rule
method_again pool n method h = by method.code h
  where
    by : (code : Option Code) → IfSome code (SoundCode pool (parameter_locals method.flags (parameter_slots pool method.desc))) → code_rule_if pool n method code ≡ Ok tt
    by None h = refl
    by (Some code) h = code_again pool n _ code h

pub sound : (parts : Parts) → check_of parts ≡ Ok tt → IsSound parts
unfolding check_of IsSound
sound parts h = each_numbered (SoundMethod parts.pool) (method_rule parts.pool) (method_sound parts.pool) 0 parts.methods h

pub complete : (parts : Parts) → IsSound parts → check_of parts ≡ Ok tt
unfolding check_of IsSound
complete parts h = each_numbered_again (SoundMethod parts.pool) (method_rule parts.pool) (method_again parts.pool) 0 parts.methods h

-- what an answer tells
pub sound_answer : (parts : Parts) (result : Result (Unit {0}) CheckFault) → AnswersUnless OutOfMemory result (check_of parts) → OnOk result (IsSound parts)
sound_answer parts (Ok done) h = sound parts h
sound_answer parts (Err fault) h = tt
