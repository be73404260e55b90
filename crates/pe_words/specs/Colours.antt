-- When pages have colours, by the words of `show`.
use Rattle.std.specs.Prelude.{◌≡◌, ℕ, List, Option, None, Some, codes, unwrap_or, if◌then◌else◌}
use Rattle.std.specs.Str.{bytes_eq}
use Rattle.clap.specs.Matches.{found_of, first_value}
use Rattle.clap.specs.declared.parser.matches.ArgMatches.{ArgMatches}
use Rattle.pe_words.specs.declared.job.Job.{Job}
use Rattle.pe_words.specs.declared.job.Job.TheVariants.{Show}
use Rattle.pe_words.specs.declared.job.Colours.{Colours}
use Rattle.pe_words.specs.declared.job.Colours.TheVariants.{Auto, Always, Never}

-- the value of `--color`, which is `auto` without the option
abbrev pub colour_word : ArgMatches → List ℕ
colour_word found = unwrap_or (first_value (found_of found) (codes "color")) (codes "auto")

-- when pages have colours by a value: auto, always or never
abbrev pub colours_named : List ℕ → Option Colours
colours_named word =
    if bytes_eq word (codes "auto") then Some Auto
    else (if bytes_eq word (codes "always") then Some Always
    else (if bytes_eq word (codes "never") then Some Never
    else None))

-- the job is `show`, with colours as the words say, and at most so many bytes
abbrev pub IsShow : {P : Type 0} → ArgMatches → Option ℕ → Job P → Type 0
IsShow found most (Show options colours limit files) = (colours_named (colour_word found) ≡ Some colours) × (limit ≡ most)
IsShow found most _ = ⊥
