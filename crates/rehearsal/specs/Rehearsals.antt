-- What a rehearsal says: the listing of a run of just the calls of the script, with just the sets of the sheet.
use Rattle.std.specs.Prelude.{◌≡◌, ℕ, true, ◌⊎◌, List, map, is_ok, Ok, Err, string_bytes, Result, String}
use Rattle.std.specs.declared.alloc.Global.{Global}
use Rattle.terms.specs.declared.failure.Failure.{Failure}
use Rattle.terms.specs.declared.failure.Failure.TheVariants.{Cause, NoMemory}
use Rattle.carrier.specs.declared.store.Store.{Store}
use Rattle.carrier.specs.Rules.{Meaning}
use Rattle.carrier.specs.Wires.{Fresh, wire_meaning}
use Rattle.texts.specs.declared.fault.FileFault.{FileFault}
use Rattle.params.specs.declared.values.Values.{Values}
use Rattle.params.specs.Calls.{OwnCall, Said, said}
use Rattle.params.specs.Made.{Sheet, both_values}
use Rattle.params.specs.Scripts.{read_script}
use Rattle.params.specs.Sheets.{read_sheet}
use Rattle.link.specs.declared.runs.Line.{Line}
use Rattle.link.specs.declared.runs.Numbers.{Numbers}
use Rattle.link.specs.Tells.{RunMade, told_by}
use Rattle.rehearsal.specs.Faults.{fault_line}
use Rattle.rehearsal.specs.Listing.{listing_text}

-- Ra is 3, Rb is 1, Rc is 2
abbrev pub session_numbers : Numbers
session_numbers = record { ra = record { value = 3 }; rb = record { value = 1 }; rc = record { value = 2 } }

-- the memory of the wire for either side, in bytes
abbrev pub wire_room : ℕ
wire_room = 8192

-- the listing of a run of these calls from new, over a new wire
pub record Performed (sheet : Sheet) (calls : List OwnCall) (text : List ℕ) : Type 0 where
  pub lines : List Line
  pub store : Store
  pub new_wire : Fresh store wire_room wire_room
  pub after : Meaning
  pub run : RunMade sheet session_numbers (wire_meaning store) after calls (map told_by lines)
  pub listed : text ≡ listing_text calls lines

pub record Rehearsed (sheet-file script-file text : List ℕ) : Type 0 where
  pub sheet : Sheet
  pub calls : List OwnCall
  pub sheet_read : read_sheet sheet-file ≡ Ok (both_values sheet)
  pub calls_read : read_script script-file ≡ Ok (map said calls)
  pub performed : Performed sheet calls text

-- the sheet's fault, or else the script's
abbrev pub Faulty : Result (Values × Values) FileFault → Result (List Said) FileFault → FileFault → Type 0
Faulty (Err e) calls f = e ≡ f
Faulty (Ok v) calls f = calls ≡ Err f

abbrev pub Rehearses : List ℕ → List ℕ → Result (String Global) (Failure FileFault) → Type 0
Rehearses sheet script (Ok text) = Rehearsed sheet script (string_bytes text)
Rehearses sheet script (Err (Cause f)) = Faulty (read_sheet sheet) (read_script script) f
Rehearses sheet script (Err NoMemory) = is_ok (read_sheet sheet) ≡ true

-- the line of a fault that the files have
pub record FaultShown (sheet script text : List ℕ) : Type 0 where
  pub fault : FileFault
  pub faulty : Faulty (read_sheet sheet) (read_script script) fault
  pub line : text ≡ fault_line fault

-- what a rehearsal of the two files may print: a listing, or the line of their fault
abbrev pub Prints : List ℕ → List ℕ → List ℕ → Type 0
Prints sheet script text = Rehearsed sheet script text ⊎ FaultShown sheet script text
