-- The options of checks, of listings and of builds, and that for JSON (this profile).
use Rattle.std.specs.Prelude.{ℕ, ◌-◌, ◌&&◌, List, [], ◌∷◌, Bool, true, Option, Some, None, codes, if◌then◌else◌}
use Rattle.std.specs.Option.{option_or}
use Rattle.std.specs.Str.{bytes_eq}
use Rattle.ns_run_words.specs.FileName.{is_file_name}
use Rattle.ns_run_words.specs.Options.{value_behind}
use Rattle.ns_run_words.specs.declared.form.Form.{Form}
use Rattle.ns_run_words.specs.declared.words.Given.{Given}

-- ---- checks

-- what is given with a word more that asks for all faults
abbrev pub with_all : Given → Option Given
with_all given = if given.all then None else Some (record given { all = true })

-- what is given with a word more that asks for the sends that nothing answers
abbrev pub with_sends : Given → Option Given
with_sends given = if given.sends then None else Some (record given { sends = true })

-- what is given with a word more that is an option of checks
abbrev pub check_where : Bool → Given → List ℕ → Option Given
check_where takes given word =
    if takes
    then (if bytes_eq word (codes "--all") then with_all given
    else (if bytes_eq word (codes "--sends") then with_sends given else None))
    else None

-- ---- listings

-- what is given with a word more that asks for members
abbrev pub with_members : Given → Option Given
with_members given = if given.members then None else Some (record given { members = true })

-- what is given with a word more that is an option of listings
abbrev pub listing_where : Bool → Given → List ℕ → Option Given
listing_where takes given word = if takes then (if bytes_eq word (codes "--members") then with_members given else None) else None

-- ---- builds

-- what is given with a word more that names the image
abbrev pub with_to : Given → Option (List ℕ) → Option Given
with_to given None = None
with_to given (Some name) = if given.to then None else (if is_file_name name then Some (record given { to = true }) else None)

-- what is given with a word more that is the option of the image
abbrev pub to_where : Bool → Given → List ℕ → Option Given
to_where takes given word = if takes then with_to given (value_behind (codes "--to=") word) else None

-- the image that options name, if they name one
abbrev pub image_among : List (List ℕ) → Option (List ℕ)
image_among [] = None
image_among (option ∷ options) = option_or (value_behind (codes "--to=") option) (image_among options)

-- the fewest names behind what is given: where an option names the image, it stands for one of them
abbrev pub least_of : Form → Given → ℕ
least_of form given = if form.to && given.to then form.least - 1 else form.least

-- the most names behind what is given
abbrev pub most_of : Form → Given → ℕ
most_of form given = if form.to && given.to then form.most - 1 else form.most

-- ---- JSON

-- what is given with a word more that asks for JSON
abbrev pub with_json : Given → Option Given
with_json given = if given.json then None else Some (record given { json = true })

-- what is given with a word more that asks for JSON, where the form takes that
abbrev pub json_where : Bool → Given → List ℕ → Option Given
json_where takes given word = if takes then (if bytes_eq word (codes "--json") then with_json given else None) else None

-- ---- all of them

-- what is given with a word more that is one of these options, where the form takes it
abbrev pub own_option : Form → Given → List ℕ → Option Given
own_option form given word =
    option_or (check_where form.checks given word)
    (option_or (listing_where form.members given word) (option_or (to_where form.to given word) (json_where form.json given word)))
