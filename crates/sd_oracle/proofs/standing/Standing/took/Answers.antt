use Rattle.std.proofs.Common.{◌∙◌, ap, List, [], ◌∷◌, ◌++◌}
use Rattle.sd_base.specs.declared.ids.Rid.{Rid}
use Rattle.sd_model.specs.declared.act.Act.{Act}
use Rattle.sd_model.specs.declared.act.Claim.{Claim}
use Rattle.sd_model.specs.Claims.{Claims}
use Rattle.sd_oracle.specs.Lists.{claims_in}
use Rattle.sd_oracle.proofs.Parts.{claims-more}
use Rattle.sd_oracle.proofs.standing.Standing.took.Goals as goal

pub returns : goal.returns
returns c =
    let r : Rid = c.args.rid in
    let acts = c.in_ok-longer.ensures ∙ ap (λ (l : List Act). l ++ c.args.acts.now) c.items.ensures in
    let marks = c.in_ok-copy_marks.ensures ∙ c.items-2.ensures in
    let claims = ap {B = Claims} (λ (l : List (Rid × Claim)) (q : Rid). claims_in l q) (c.in_ok-claimed.ensures ∙ ap (λ (l : List (Rid × Claim)). l ++ (r, c.args.mode) ∷ []) c.items-3.ensures)
    ∙ claims-more c.args.self.now.claims r c.args.mode in
    λ i. record { life = c.args.self.now.life; acts = acts i; marks = marks i; claims = claims i }
