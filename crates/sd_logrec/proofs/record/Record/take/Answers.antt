use Rattle.std.proofs.lemmas.Option.{none-some, some_pair_parts}
use Rattle.std.proofs.Common.{◌≡◌, ℕ, ◌+◌, ◌-◌, ◌++◌, length, List, Option, Some, ap, sym, ◌∙◌, inl, arith}
use Rattle.sd_logrec.specs.declared.record.Record.{Record}
use Rattle.sd_logrec.specs.Spelling.{spelling}
use Rattle.sd_logrec.proofs.Places.{Taken, is_taken, is_only}
use Rattle.sd_logrec.proofs.record.Record.take.Goals as goal

taken : (c : goal.In-Ok) → Taken c.args.bytes.now c.args.at c.in-Ok.record c.in-Ok.rest.now
taken c = is_taken c.args.bytes.now c.split_at.result.1.now c.args.at c.in-Ok.record c.in-Ok.rest.now (λ i. omega (arith, c.type_inv.bytes i)) c.split_at.ensures.back c.in-Ok.ensures

pub overflow_sub-result : goal.overflow_sub-result
overflow_sub-result c = (taken c).inside

pub returns-in-Ok-clause-found : goal.returns-in-Ok-clause-found
returns-in-Ok-clause-found c = let t = taken c in (t.fits, t.spelled ∙ ap (λ (l : List ℕ). spelling c.in-Ok.record ++ l) t.behind)

pub returns-in-Ok-clause-place : goal.returns-in-Ok-clause-place
returns-in-Ok-clause-place c = (taken c).place

read_again : (a b : Record) (x y : List ℕ) → ◌≡◌ {A = Option (Record × List ℕ)} (Some (a, x)) (Some (b, y)) → a ≡ b
read_again a b x y e = (some_pair_parts a b x y e).0

pub returns-in-Ok-clause-taken : goal.returns-in-Ok-clause-taken
returns-in-Ok-clause-taken c = λ r rest fits e.
    let t = taken c in
    let same : c.in-Ok.record ≡ r = read_again c.in-Ok.record r c.in-Ok.rest.now rest (sym c.in-Ok.ensures ∙ is_only c.args.bytes.now c.split_at.result.1.now c.args.at r rest c.split_at.ensures.back fits e) in
    let place : length c.args.bytes.now - length c.in-Ok.rest.now ≡ c.args.at + length (spelling r) = t.place ∙ ap (λ (x : Record). c.args.at + length (spelling x)) same in
    inl cc

pub returns-in-Err-Nothing-clause-taken : goal.returns-in-Err-Nothing-clause-taken
returns-in-Err-Nothing-clause-taken c = λ r rest fits e.
    let nothing = rw c.in-Err-Nothing.field-0-is at c.in-Err-Nothing.ensures in
    let none = sym nothing ∙ is_only c.args.bytes.now c.split_at.result.1.now c.args.at r rest c.split_at.ensures.back fits e in absurd (none-some (r, rest) none)

pub returns-in-Err-Nothing-clause-bad : goal.returns-in-Err-Nothing-clause-bad
returns-in-Err-Nothing-clause-bad c = λ same r rest fits e.
    let nothing = rw c.in-Err-Nothing.field-0-is at c.in-Err-Nothing.ensures in
    let none = sym nothing ∙ is_only c.args.bytes.now c.split_at.result.1.now c.args.at r rest c.split_at.ensures.back fits e in none-some (r, rest) none
