use Rattle.sd_gen.specs.Generated.{head_text}
use Rattle.sd_gen.proofs.script.push_head.Goals as goal

-- the constant is the head, by computing it
pub returns : goal.returns
unfolding head_text
returns c = c.push_word.ensures
