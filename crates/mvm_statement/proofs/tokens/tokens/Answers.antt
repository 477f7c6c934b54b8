use Rattle.std.proofs.Common.{◌≡◌, ◌++◌, option_to_list, ℕ, ◌+◌, ◌<◌, ◌≤◌, length, List, [], ◌∷◌, drop, get_or, refl, sym, ap, ◌∙◌, arith, append_assoc}
use Rattle.std.specs.Str.{chars}
use Rattle.std.proofs.lemmas.Iterator.{YieldsList-from_chars}
use Rattle.std.proofs.lemmas.Iterator.Consumers.{YieldsList-turn, YieldsList-end}
use Rattle.std.proofs.lemmas.List.{at_drop_more, at_drop_all, length_push}
use Rattle.mvm_statement.specs.Tokens.{step, at_end, tokens, tokens_from}
use Rattle.mvm_statement.specs.declared.token.Token.{Token}
use Rattle.mvm_statement.specs.declared.token.Mode.{Mode}
use Rattle.mvm_statement.specs.declared.token.Mode.TheVariants.{Between}
use Rattle.mvm_statement.specs.declared.token.Step.{Step}
use Rattle.mvm_statement.specs.declared.token.Step.TheVariants.{Goes, Gives, Ends}
use Rattle.mvm_statement.proofs.tokens.tokens.Goals as goal

-- what a step makes of the tokens of what is left
abbrev after : Step → List ℕ → List Token
after (Goes next) cs = tokens_from next cs
after (Gives token) cs = token ∷ tokens_from Between cs
after (Ends token) cs = option_to_list token

stepped : (mode : Mode) (c : ℕ) (cs : List ℕ) (s : Step) → s ≡ step mode c → tokens_from mode (c ∷ cs) ≡ after s cs
unfolding tokens_from
stepped mode c cs (Goes next) h = rw (tokens_from, sym h) refl
stepped mode c cs (Gives token) h = rw (tokens_from, sym h) refl
stepped mode c cs (Ends token) h = rw (tokens_from, sym h) refl

on : (line : List ℕ) (all done : List Token) (mode : Mode) (i c : ℕ) (s : Step) → (i < length line) × (c ≡ get_or line i c) → all ≡ done ++ tokens_from mode (drop i line) → s ≡ step mode c → all ≡ done ++ after s (drop (i + 1) line)
on line all done mode i c s l h e =
    let here : tokens_from mode (get_or line i c ∷ drop (i + 1) line) ≡ tokens_from mode (c ∷ drop (i + 1) line) = ap (λ (x : ℕ). tokens_from mode (x ∷ drop (i + 1) line)) (sym l.1) in
    h ∙ ap (λ (ts : List Token). done ++ ts) (at_drop_more (tokens_from mode) line i c l.0 ∙ here ∙ stepped mode c (drop (i + 1) line) s e)

gave : (all done : List Token) (token : Token) (cs : List ℕ) → all ≡ done ++ (token ∷ tokens_from Between cs) → all ≡ (done ++ token ∷ []) ++ tokens_from Between cs
gave all done token cs h = h ∙ sym (append_assoc done (token ∷ []) (tokens_from Between cs))

at_the_end : (mode : Mode) (line : List ℕ) (i : ℕ) → length line ≤ i → tokens_from mode (drop i line) ≡ at_end mode
unfolding tokens_from
at_the_end mode line i h = at_drop_all (tokens_from mode) line i h

pub returns-in-Ends : goal.returns-in-Ends
returns-in-Ends c =
    let line = chars c.args.line.now in
    let t = YieldsList-turn (YieldsList-from_chars c.args.line.now c.utf8.line cc) c.loop-c.yielded _ c.loop-c.yielded_by _ _ c.in-Some.c c.in-Some.is c.next.ensures.steps in
    let e = on line (tokens line) c.loop-c.done c.loop-c.mode (length c.loop-c.yielded) c.in-Some.c (Ends c.in-Ends.token) t c.loop-c.invariant (sym c.in-Ends.is ∙ c.in_ok-next.ensures) in
    c.in_ok-push_some-in-Ends.ensures ∙ sym e

pub loop-c-preserved-in-Goes : goal.loop-c-preserved-in-Goes
loop-c-preserved-in-Goes c =
    let line = chars c.args.line.now in
    let t = YieldsList-turn (YieldsList-from_chars c.args.line.now c.utf8.line cc) c.loop-c.yielded _ c.loop-c.yielded_by _ _ c.in-Some.c c.in-Some.is c.next.ensures.steps in
    let e = on line (tokens line) c.loop-c.done c.loop-c.mode (length c.loop-c.yielded) c.in-Some.c (Goes c.in-Goes.next) t c.loop-c.invariant (sym c.in-Goes.is ∙ c.in_ok-next.ensures) in
    rw (length_push c.loop-c.yielded c.in-Some.c) e

pub loop-c-preserved : goal.loop-c-preserved
loop-c-preserved c =
    let line = chars c.args.line.now in
    let t = YieldsList-turn (YieldsList-from_chars c.args.line.now c.utf8.line cc) c.loop-c.yielded _ c.loop-c.yielded_by _ _ c.in-Some.c c.in-Some.is c.next.ensures.steps in
    let e = on line (tokens line) c.loop-c.done c.loop-c.mode (length c.loop-c.yielded) c.in-Some.c (Gives c.in-Gives.token) t c.loop-c.invariant (sym c.in-Gives.is ∙ c.in_ok-next.ensures) in
    let g = gave (tokens line) c.loop-c.done c.in-Gives.token (drop (length c.loop-c.yielded + 1) line) e in
    rw (length_push c.loop-c.yielded c.in-Some.c, c.in_ok-push-in-Gives.ensures.ok) g

pub returns : goal.returns
returns c =
    let line = chars c.args.line.now in
    let t = YieldsList-end (YieldsList-from_chars c.args.line.now c.utf8.line cc) c.loop-c.yielded _ c.loop-c.yielded_by _ _ c.in-None.is c.next.ensures.steps in
    let last = at_the_end c.loop-c.mode line (length c.loop-c.yielded) (omega (arith, t.1)) in
    c.in_ok-push_some.ensures ∙ ap (λ (ts : List Token). c.loop-c.done ++ ts) (c.ended.ensures ∙ sym last) ∙ sym c.loop-c.invariant
