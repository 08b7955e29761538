-- Titles and meanings of refusals, and advice on mending them. Own rule of the profile.
use Rattle.std.specs.Prelude.{ℕ, List, codes}
use Rattle.pc_source.specs.declared.fault.RefusalCode.{RefusalCode}
use Rattle.pc_source.specs.declared.fault.RefusalCode.TheVariants.{S1, S2, S3, S4, S5, L1, L2, L3, L4, L5, L6, L7, L8}
use Rattle.pc_source.specs.declared.fault.RefusalCode.TheVariants.{I1, I2, I3, N1, N2, N3, N4, N5, G1, G2}

-- the title of a refusal with this code
abbrev pub refusal_title_of : RefusalCode → List ℕ
refusal_title_of S1 = codes "Too long"
refusal_title_of S2 = codes "Not UTF-8"
refusal_title_of S3 = codes "Byte order mark"
refusal_title_of S4 = codes "Control character"
refusal_title_of S5 = codes "Other coding"
refusal_title_of L1 = codes "Stray character"
refusal_title_of L2 = codes "Bad string"
refusal_title_of L3 = codes "Bad number"
refusal_title_of L4 = codes "Bad name"
refusal_title_of L5 = codes "Unmatched bracket"
refusal_title_of L6 = codes "Too many brackets"
refusal_title_of L7 = codes "Tab in the indentation"
refusal_title_of L8 = codes "Number too long"
refusal_title_of I1 = codes "Unmatched indentation"
refusal_title_of I2 = codes "Unexpected indentation"
refusal_title_of I3 = codes "Too many suites"
refusal_title_of N1 = codes "Excluded keyword"
refusal_title_of N2 = codes "Excluded operator"
refusal_title_of N3 = codes "Nested function"
refusal_title_of N4 = codes "Nested class"
refusal_title_of N5 = codes "Other decorator"
refusal_title_of G1 = codes "No module"
refusal_title_of G2 = codes "Too deep"

-- the meaning of a refusal with this code
abbrev pub refusal_meaning_of : RefusalCode → List ℕ
refusal_meaning_of S1 = codes "The file has more than 1,048,576 bytes."
refusal_meaning_of S2 = codes "The bytes of the file are not UTF-8."
refusal_meaning_of S3 = codes "The file begins with a byte order mark."
refusal_meaning_of S4 = codes "There is a NUL, a form feed, or a carriage return that no line feed follows."
refusal_meaning_of S5 = codes "A comment on the first or second line names a coding other than `utf-8`."
refusal_meaning_of L1 = codes "There is a character that belongs to no word and no sign of the language."
refusal_meaning_of L2 =
    codes "A string is of a kind that the profile leaves out, such as an f-string or one in triple quotes."
refusal_meaning_of L3 =
    codes "A number is of a kind that the profile leaves out, such as one with a decimal point or a leading zero."
refusal_meaning_of L4 =
    codes "A name begins with two underscores, or is a keyword or a reserved name in other letters."
refusal_meaning_of L5 =
    codes "A closing bracket does not match the last one opened, or the text ends while a bracket is open."
refusal_meaning_of L6 = codes "More than 64 brackets are open inside one another."
refusal_meaning_of L7 = codes "There is a tab in the indentation of a line."
refusal_meaning_of L8 = codes "A number has more than 1,000 digits."
refusal_meaning_of I1 = codes "A line returns to a column at which no indented block is open."
refusal_meaning_of I2 = codes "A line is indented more than the one before it, which does not end with a colon."
refusal_meaning_of I3 = codes "More than 50 indented blocks are open inside one another."
refusal_meaning_of N1 = codes "There is a keyword that the profile leaves out."
refusal_meaning_of N2 = codes "There is an operator that the profile leaves out."
refusal_meaning_of N3 = codes "There is a `def` inside a `def`."
refusal_meaning_of N4 = codes "There is a `class` inside a function or a class."
refusal_meaning_of N5 = codes "There is a decorator other than `@dataclass`."
refusal_meaning_of G1 = codes "There is a form that the grammar of the profile does not have."
refusal_meaning_of G2 = codes "An expression or annotation is more than 64 levels deep."

-- advice on how to mend a refusal with this code
abbrev pub refusal_mending_of : RefusalCode → List ℕ
refusal_mending_of S1 = codes "Split the file, or generate less of it."
refusal_mending_of S2 = codes "Save the file as UTF-8."
refusal_mending_of S3 = codes "Save the file as UTF-8 without a byte order mark."
refusal_mending_of S4 = codes "Delete it: lines end with a line feed, or with a carriage return and a line feed."
refusal_mending_of S5 = codes "Save the file as UTF-8 and name that coding, spelled `utf-8`, or none."
refusal_mending_of L1 =
    codes "Remove it; an expression in parentheses may continue on the next line without a backslash."
refusal_mending_of L2 =
    codes "Write a plain string, join strings with `+`, and turn other values into strings with `str`."
refusal_mending_of L3 = codes "Write a whole number in decimal, and count in a smaller unit instead of a fraction."
refusal_mending_of L4 = codes "Choose a plain name."
refusal_mending_of L5 = codes "Close each bracket with one of its own kind."
refusal_mending_of L6 = codes "Drop needless brackets, or give names to inner parts."
refusal_mending_of L7 = codes "Indent with spaces."
refusal_mending_of L8 = codes "Compute it from smaller numbers."
refusal_mending_of I1 = codes "Indent it exactly like the lines that it belongs with."
refusal_mending_of I2 = codes "Indent it like the line before it, or add the missing colon."
refusal_mending_of I3 =
    codes "Combine conditions with `and`, return early, or move the inner part into a function of its own."
refusal_mending_of N1 =
    codes "Write one of the forms that the page of codes names for this keyword, such as `assert` for `raise`."
refusal_mending_of N2 =
    codes "Write `total = total + n` for `+=`, `//` for `/`, a loop for `**`, and one statement on each line."
refusal_mending_of N3 = codes "Move it to the top level, and pass it what it needs."
refusal_mending_of N4 = codes "Move it to the top level."
refusal_mending_of N5 = codes "Write `@dataclass` alone, or a method or a function that is called by its name."
refusal_mending_of G1 = codes "Write the form that the page of codes names in its place."
refusal_mending_of G2 = codes "Give names to parts of it, or put the operands in a list and loop over them."
