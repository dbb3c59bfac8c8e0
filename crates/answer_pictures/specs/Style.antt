-- How a picture looks: fixed texts, which hold nothing from outside.
use Rattle.std.specs.Prelude.{ℕ, List, codes}

unfoldable pub style : List ℕ
style =
    codes ".paper{fill:#fff}text{font:13px system-ui,sans-serif;fill:#1b1f24}.title{font-size:17px;font-weight:600}.time{font-size:12px}.tick,.note{font-size:11px;fill:#59636e}.tick{text-anchor:middle}.note,.tick{paint-order:stroke;stroke:#fff;stroke-width:4px}.grid{stroke:#dde2e7}.wait{stroke:#59636e;stroke-width:1.5;stroke-dasharray:1 4}.ride{fill:#1f6feb;stroke:#fff}.ride:nth-of-type(even){fill:#0a3069}.trip{font-size:11px;fill:#fff}.walk{stroke:#b35900;stroke-width:4;stroke-dasharray:5 3}.change{stroke:#1b1f24;stroke-width:7;stroke-linecap:round}@media(prefers-color-scheme:dark){.paper{fill:#0d1117}text{fill:#e6edf3}.tick,.note{fill:#9198a1;stroke:#0d1117}.grid{stroke:#2b323b}.wait{stroke:#9198a1}.ride{fill:#4493f8;stroke:#0d1117}.ride:nth-of-type(even){fill:#a5d6ff}.trip{fill:#0d1117}.walk{stroke:#f0a04b}.change{stroke:#e6edf3}}"

-- a sample of each kind of part, with its name
unfoldable pub legend : List ℕ
legend =
    codes "<g transform=\"translate(0 70)\">\n<rect class=\"ride\" y=\"-7\" height=\"14\" rx=\"4\" x=\"16\" width=\"40\"/>\n<text class=\"note\" x=\"62\" y=\"4\">ride</text>\n<path class=\"walk\" d=\"M106 0h36\"/>\n<text class=\"note\" x=\"148\" y=\"4\">walk</text>\n<path class=\"change\" d=\"M194 0h6\"/>\n<text class=\"note\" x=\"208\" y=\"4\">change</text>\n<path class=\"wait\" d=\"M262 0h36\"/>\n<text class=\"note\" x=\"304\" y=\"4\">waiting; +1 is the next day</text>\n</g>\n"
