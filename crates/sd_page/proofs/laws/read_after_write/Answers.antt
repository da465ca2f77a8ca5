use Rattle.sd_page.proofs.Slots.{value_at-written, value_at-written_other, capacity_at-written, capacity_at-written_new, length-written, length-written_new}
use Rattle.sd_page.proofs.laws.read_after_write.Goals as goal

pub returns : goal.returns
returns c = record {
  value = value_at-written;
  others = value_at-written_other;
  capacities = capacity_at-written;
  new_capacity = capacity_at-written_new;
  count = length-written;
  new_count = length-written_new;
}
