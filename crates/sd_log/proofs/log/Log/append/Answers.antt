use Rattle.std.proofs.Common.{◌≡◌, inl, inr, ◌-◌, ◌∙◌, false, true, length, refl, sym, ap, arith}
use Rattle.std.proofs.lemmas.Result.{err_from_is_err_and}
use Rattle.sd_logrec.specs.Spelling.{spelling}
use Rattle.sd_log.specs.Logs.{LogState, with_record}
use Rattle.sd_log.proofs.Tails.{closing_spelling}
use Rattle.sd_log.proofs.log.Log.append.Goals as goal

never : false ≡ true → ⊥
never e = cc

pub returns-in_err-put-clause-there : goal.returns-in_err-put-clause-there
returns-in_err-put-clause-there c reserved small =
    let kept : c.spare_after-kept.result ≡ c.self.inside.spare - c.len-len.result = rw reserved at c.spare_after-kept.ensures in
    let spare : c.self.inside.spare ≡ c.args.self.now.spare = ap (λ (s : LogState). s.spare) c.self.view_is in
    let len : c.len-len.result ≡ length (spelling c.args.r.now) = c.len-len.ensures in
    absurd (never (c.in_err-put.ensures.there (omega (arith, closing_spelling c.args.r.now reserved))))

pub put-requires-clause-fits : goal.put-requires-clause-fits
put-requires-clause-fits c = c.requires

pub put-requires-clause-len : goal.put-requires-clause-len
put-requires-clause-len c = c.len-len.ensures

pub returns-then-lacks_room-clause-stays : goal.returns-then-lacks_room-clause-stays
returns-then-lacks_room-clause-stays c = refl

pub returns-then-lacks_room-clause-spends : goal.returns-then-lacks_room-clause-spends
returns-then-lacks_room-clause-spends c reserved = omega arith

pub returns-then-lacks_room-clause-there : goal.returns-then-lacks_room-clause-there
returns-then-lacks_room-clause-there c reserved small = inr refl

pub returns-in_err-put-clause-stays : goal.returns-in_err-put-clause-stays
returns-in_err-put-clause-stays c =
    let is = err_from_is_err_and c.from_residual.result c.from_residual.ensures.1 in
    rw is.1 c.in_err-put.ensures.stays

pub returns-clause-ok : goal.returns-clause-ok
returns-clause-ok c =
    let ok : c.put.new.self ≡ with_record c.args.r.now c.spare_after-kept.result c.args.self.now = c.in_ok-put.ensures.ok in
    ok ∙ ap (λ n. with_record c.args.r.now n c.args.self.now) (sym (ap (λ (s : LogState). s.spare) ok))

pub returns-clause-there : goal.returns-clause-there
returns-clause-there c reserved small = inl refl
