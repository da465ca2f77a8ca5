use Rattle.sd_model.proofs.Reopens.{reopened-reopens, closed-may, reopened-stands}
use Rattle.sd_model.proofs.laws.reopenings.Goals as goal

pub returns : goal.returns
returns c = record {
  reopened = reopened-reopens;
  may = λ commits stays holds lost is_down m p l shut f. closed-may commits m l stays holds lost is_down p shut f;
  stands = λ commits stays holds is_down m l. reopened-stands commits m l stays holds is_down;
}
