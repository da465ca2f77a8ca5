use Rattle.sd_pagelock.proofs.Forms.{formed-move}
use Rattle.sd_pagelock.proofs.laws.moves_keep_form.Goals as goal

pub returns : goal.returns
returns c = formed-move
