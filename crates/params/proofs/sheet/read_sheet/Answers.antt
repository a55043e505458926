use Rattle.std.proofs.Common.{◌≡◌, rules}
use Rattle.params.specs.Made.{sheet_values}
use Rattle.params.specs.Sheets.{read_sheet}
use Rattle.params.proofs.Ranges.{sheet_inside}
use Rattle.params.proofs.SheetFaults.{sheet_first_fault}
use Rattle.params.proofs.SheetTrips.{sheet_rewritten}
use Rattle.params.proofs.sheet.read_sheet.Goals as goal

pub returns : goal.returns
returns c =
    let text = c.args.text.now in
    let r = c.read_rows.result in
    let is : sheet_values r ≡ read_sheet text = search rules in
    record { value = is; inside = sheet_inside r; first = sheet_first_fault text r is; rewritten = sheet_rewritten text r is }
