-- A history owns nothing, so a thread may hand it on.
use denote.Param.Send.{IsSend}
use Rattle.sd_rig.specs.contracts.history.History.{the_row}

pub send : IsSend the_row
send = record { owned = λ d vs. ((λ vss. (tt, ((λ uss. (tt, tt)), tt))), tt); leaving = λ k f vs. tt }
