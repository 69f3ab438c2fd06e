use Rattle.std.proofs.lemmas.Result.{err_from_is_err_and}
use Rattle.header.proofs.Laws.{Formed, form-refused, form-passed, formed-cut, refused-early, refused-late, passed-header}
use Rattle.header.proofs.check_header.Goals as goal
use Rattle.header.proofs.check_header.Goals.{In_ok-form}

-- 1 to 4 passed
formed : (c : In_ok-form) → Formed c.args.image.now c.in_ok-form.form.size c.in_ok-form.form.pages
formed c = form-passed c.args.image.now c.in_ok-form.form c.in_ok-form.ensures

pub returns-in_err-form : goal.returns-in_err-form
returns-in_err-form c =
    let p = err_from_is_err_and c.from_residual.result c.from_residual.ensures.1 in
    rw (p.1, p.2) (refused-early _ _ (form-refused _ _ c.in_err-form.ensures))

pub pages_of-pages-requires : goal.pages_of-pages-requires
pages_of-pages-requires c = let f = formed (goal.at.pages_of-pages-requires c).In_ok-form in ((formed-cut f).long, f.present-is)

pub check_fields-requires : goal.check_fields-requires
check_fields-requires c =
    let f = formed (goal.at.check_fields-requires c).In_ok-form in
    let g = formed-cut f in
    (g.long, g.least, f.size_is, f.present-is, c.pages_of-pages.ensures)

pub returns-in_err-check_fields : goal.returns-in_err-check_fields
returns-in_err-check_fields c =
    let f = formed (goal.at.returns-in_err-check_fields c).In_ok-form in
    let r = c.from_residual-in_err-check_fields in
    let p = err_from_is_err_and r.result r.ensures.1 in
    rw (p.1, p.2) (refused-late _ _ f.passes c.in_err-check_fields.ensures)

pub usable_of-usable-requires : goal.usable_of-usable-requires
usable_of-usable-requires c =
    let f = formed (goal.at.usable_of-usable-requires c).In_ok-form in
    let g = formed-cut f in
    (g.long, g.least, f.size_is)

pub returns : goal.returns
returns c =
    let f = formed (goal.at.returns c).In_ok-form in
    passed-header _ _ _ _ f.passes f.size_is c.usable_of-usable.ensures c.pages_of-pages.ensures c.in_ok-check_fields.ensures
