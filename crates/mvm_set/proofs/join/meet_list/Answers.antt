use Rattle.std.proofs.Common.{◌≡◌, ◌+◌, ◌∷◌, [], List, drop, sym, ap, ◌∙◌, arith}
use Rattle.std.specs.Prelude.{◌||◌}
use Rattle.std.proofs.lemmas.Grind.{common_steps}
use Rattle.mvm_layout.specs.declared.parts.Parts.{Parts}
use Rattle.mvm_shape.specs.Members.{same_text}
use Rattle.mvm_set.specs.Names.{own_name}
use Rattle.mvm_set.specs.Seen.{is_seen, is_among}
use Rattle.mvm_set.specs.declared.own.OwnWalk.{OwnWalk}
use Rattle.mvm_set.proofs.Single.{file_met, or_none}
use Rattle.mvm_set.proofs.join.meet_list.Goals as goal

pub loop-i-preserved : goal.loop-i-preserved
loop-i-preserved c = λ other.
    let own = c.index-owns-i.result in
    let rest = drop (c.loop-i.i + 1) c.args.owns.now in
    let e : drop c.loop-i.i c.args.owns.now ≡ own ∷ rest = grind (arith, common_steps) in
    let file : c.file.result.now ≡ own.file = c.file.ensures ∙ ap (λ (one : OwnWalk). one.file) c.get.ensures in
    file_met (is_seen c.loop-i.names) (is_seen c.meet_file.new.names) own rest
    (λ name. c.in_ok-meet_file.ensures name ∙ ap (λ (parts : Parts). is_seen c.loop-i.names name || same_text (own_name parts) name) file) other
    ∙ ap (λ (owns : List OwnWalk). is_seen c.loop-i.names other || is_among other owns) (sym e)
    ∙ c.loop-i.invariant other

pub returns : goal.returns
returns c = λ other.
    let none : drop c.loop-i.i c.args.owns.now ≡ [] = grind (arith, common_steps) in
    sym (or_none (is_seen c.loop-i.names other))
    ∙ ap (λ (owns : List OwnWalk). is_seen c.loop-i.names other || is_among other owns) (sym none)
    ∙ c.loop-i.invariant other
