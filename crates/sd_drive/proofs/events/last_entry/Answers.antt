use Rattle.std.proofs.Common.{◌≡◌, ap, ◌∙◌, subst}
use Rattle.std.specs.Borrow.{Bor}
use Rattle.std.specs.Prelude.{IfSome, Option}
use Rattle.sd_model.specs.declared.event.Entry.{Entry}
use Rattle.sd_model.specs.History.{History}
use Rattle.sd_drive.proofs.events.last_entry.Goals as goal

pub unwrap-requires : goal.unwrap-requires
unwrap-requires g c =
    c.last_whole.ensures.there c.requires.0 c.requires.1 (ap (λ (h : History). h.entries) c.book.ensures ∙ c.requires.2) c.requires.3

pub returns : goal.returns
returns g c = λ before last ends.
    subst (λ (r : Option (Bor Entry)). IfSome r (λ (e : Bor Entry). e.now ≡ last)) c.unwrap.ensures
    (c.last_whole.ensures.newest before last (ap (λ (h : History). h.entries) c.book.ensures ∙ ends))
