use Rattle.sd_chain.proofs.Images.{seal-safe, plain-gives, end-gives, commit-gives}
use Rattle.sd_chain.proofs.laws.seal.Goals as goal

pub returns-clause-safe : goal.returns-clause-safe
returns-clause-safe g c i y old new version a safe can =
    seal-safe i y old new a.grows a.own g.C.Crashes.may version version safe can

pub returns-clause-plain : goal.returns-clause-plain
returns-clause-plain g c i y old new version a safe no_page goes_on value gives =
    plain-gives i y old new a.grows a.own g.C.Crashes.may version version safe no_page goes_on value gives

pub returns-clause-ended : goal.returns-clause-ended
returns-clause-ended g c i y old new version a safe no_page it_ends none value gives =
    end-gives i y old new a.grows a.own g.C.Crashes.may version version safe no_page it_ends none value gives

pub returns-clause-committed : goal.returns-clause-committed
returns-clause-committed g c i y old new version a safe no_page it_ends runs value value' commits gives =
    commit-gives i y old new a.grows a.own g.C.Crashes.may version version safe no_page it_ends runs value value' commits gives
