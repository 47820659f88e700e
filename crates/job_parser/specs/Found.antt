-- What the code answers where a reader reads the front of a text, and what it leaves of the text. Definitions only.
use Rattle.std.specs.Prelude.{◌≡◌, List, ℕ, Option, Some, None}
use Rattle.std.proofs.Math.Option.{some, none}
use Rattle.std.proofs.Math.Option.{Option as Possible}
use Rattle.job_parser.specs.Reading.{Reading, found, nothing}
use Rattle.job_parser.specs.Job.{Job}
use Rattle.job_parser.specs.declared.Header.{Header}

-- a value and the text after it; or nothing that can be read
abbrev pub Reads : {A : Type 0} → Option A → List ℕ → Reading A → Type 0
Reads (Some a) rest reading = reading ≡ found a rest
Reads None rest reading = reading ≡ nothing

-- the same of pixels that are put into a lent slice
abbrev pub Fills : Option (Unit {0}) → List ℕ → List ℕ → Reading (List ℕ) → Type 0
Fills (Some done) pixels rest reading = reading ≡ found pixels rest
Fills None pixels rest reading = reading ≡ nothing

-- line one of a job that a text is
unfoldable pub job_of : Possible Job → Option Header
job_of (some job) = Some job.header
job_of none = None
