-- What a railway may rely on, in its own words.
use Rattle.std.specs.Prelude.{◌≡◌, ◌≤◌, true, List, [], ◌∷◌, length, negsuc, ◌≤ℤ◌, bit_xor, count_ones}
use Rattle.texts.specs.Words.{printable}
use Rattle.params.specs.Calls.{Said, message_of}
use Rattle.params.specs.declared.values.Values.{Values}

-- every value of a parameter set lies in its range: negsuc 999 is -1000, negsuc 0 is -1
pub record InRange (v : Values) : Type 0 where
  pub version : v.version ≤ 255
  pub period : (1 ≤ v.period.0) × (v.period.0 ≤ 60000)
  pub window : (1 ≤ v.window) × (v.window ≤ 1000)
  pub mmin : (negsuc 999 ≤ℤ v.mmin) × (v.mmin ≤ℤ negsuc 0)
  pub mmax : v.mmax ≤ 1000
  pub ask : (1 ≤ v.ask.0) × (v.ask.0 ≤ 10000)
  pub wait : (1 ≤ v.wait.0) × (v.wait.0 ≤ 1000)
  pub setup : (1 ≤ v.setup.0) × (v.setup.0 ≤ 10000)
  pub longest : (3 ≤ v.longest) × (v.longest ≤ 1023)
  pub ec : v.ec.0 ≤ 4294967295
  pub apart1 : (6 ≤ count_ones (bit_xor v.own.first v.far.first)) × (count_ones (bit_xor v.own.first v.far.first) ≤ 26)
  pub apart2 : (6 ≤ count_ones (bit_xor v.own.second v.far.second)) × (count_ones (bit_xor v.own.second v.far.second) ≤ 26)

-- a call has a message of at most 64 bytes, each printable and no space
abbrev pub Ready : Said → Type 0
Ready c = (length (message_of c.action) ≤ 64) × (printable (message_of c.action) ≡ true)

abbrev pub AllReady : List Said → Type 0
AllReady [] = Unit {0}
AllReady (c ∷ cs) = Ready c × AllReady cs

-- a script that is accepted has at most 800 calls, each of them ready
pub record ReadyScript (cs : List Said) : Type 0 where
  pub few : length cs ≤ 800
  pub ready : AllReady cs
