use Rattle.sd_chain.proofs.Images.{change-safe, change-gives}
use Rattle.sd_chain.proofs.laws.change.Goals as goal

pub returns-clause-safe : goal.returns-clause-safe
returns-clause-safe g c i y old new version version' a safe can redone =
    change-safe i y old new a.grows a.own g.C.Crashes.may version version' safe can redone

pub returns-clause-gives : goal.returns-clause-gives
returns-clause-gives g c i y old new version version' a safe can redone value gives =
    change-gives i y old new a.grows a.own g.C.Crashes.may version version' safe can redone value gives
