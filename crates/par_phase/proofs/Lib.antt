mod Zips
