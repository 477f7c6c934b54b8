use Rattle.std.proofs.Common.{List, ap, ◌∙◌}
use Rattle.std.specs.List.{find}
use Rattle.mvm_set.specs.Members.{flags_at}
use Rattle.mvm_set.specs.declared.own.OwnWalk.{OwnWalk}
use Rattle.mvm_select.specs.MostSpecific.{declares, supers}
use Rattle.mvm_select.specs.Resolution.{or_no_method, or_first_declared, of_superinterfaces}
use Rattle.mvm_select.proofs.resolution.of_superinterfaces.Goals as goal

pub returns-in-Some : goal.returns-in-Some
unfolding of_superinterfaces
returns-in-Some c =
    let flags = flags_at c.args.name.now c.args.desc.now in
    ap or_no_method (c.in-Some.ensures ∙ ap (λ (owns : List OwnWalk). find (λ (own : OwnWalk). declares flags own.file) owns) c.supers.ensures)
    ∙ ap (or_first_declared flags (supers c.args.walk.now)) c.in-Err.ensures

pub returns-in-None : goal.returns-in-None
unfolding of_superinterfaces
returns-in-None c =
    let flags = flags_at c.args.name.now c.args.desc.now in
    ap or_no_method (c.in-None.ensures ∙ ap (λ (owns : List OwnWalk). find (λ (own : OwnWalk). declares flags own.file) owns) c.supers.ensures)
    ∙ ap (or_first_declared flags (supers c.args.walk.now)) c.in-Err.ensures
