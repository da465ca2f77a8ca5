use Rattle.sd_chain.proofs.Images.{undo-safe, undo-gives}
use Rattle.sd_chain.proofs.laws.undo.Goals as goal

pub returns-clause-safe : goal.returns-clause-safe
returns-clause-safe g c i y top below old new version version' a safe can redone =
    undo-safe i y old new a.grows a.own g.C.Crashes.may version version' safe top below can redone

pub returns-clause-gives : goal.returns-clause-gives
returns-clause-gives g c i y top below old new version version' a safe can redone value gives =
    undo-gives i y old new a.grows a.own g.C.Crashes.may version version' safe top below can redone value gives
