use Rattle.sd_model.specs.Tables.{contents}
use Rattle.sd_chain.specs.Bytes.{stable}
use Rattle.sd_chain.proofs.Apart.{Recovered-one}
use Rattle.sd_state.specs.Values.{Pending, values}
use Rattle.sd_restart.proofs.laws.going_on.Goals as goal

pub returns-clause-sound : goal.returns-clause-sound
returns-clause-sound c devices m stands = stands.sound

pub returns-clause-table : goal.returns-clause-table
returns-clause-table c devices m table stands is p s lt =
    Recovered-one (stable devices) stands.sound.kept p s (contents table (record { page = p; slot = s }))
    (values m Pending.Idle (stable devices).logs p s) (is p s lt) (stands.recovered p s)
