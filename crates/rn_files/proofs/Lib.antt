mod LineCuts
mod NamesReadBack
mod FileGraphs
mod WalkedSegments
mod SlashPlaces
mod LongestPrefixes
mod FilesRead
