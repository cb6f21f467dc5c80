-- A document on the page for a browser, with what was found of it.
use Rattle.std.specs.Prelude.{ℕ, List, ◌++◌, codes}
use Rattle.tpl_page.specs.Page.{IsPage}

-- what the page's scripts show: an object that has the document's text, and under this name what was found, a JSON value
abbrev pub shown : (document name found : List ℕ) → List ℕ
shown document name found =
    codes "{\"document\":" ++ (document ++ (codes ",\"" ++ (name ++ (codes "\":" ++ (found ++ codes "}")))))

-- the text is a page that has these lines, and for its scripts the document's own text with what was found
abbrev pub IsDocumentPage : (lines document name found text : List ℕ) → Type 0
IsDocumentPage lines document name found text = IsPage lines (shown document name found) text
