-- What the code holds of an element.
use Rattle.pe_trust.specs.Der as der
use Rattle.pe_trust.specs.declared.der.Element.{Element}

abbrev pub element_view : Element → der.Element
element_view e = record { tag = e.tag; content = e.content.now; rest = e.rest.now }
